use Rattle.std.proofs.Common.{subst, refl}
use Rattle.std.proofs.lemmas.Result.{IfOk-weaker}
use Rattle.heat_plan.specs.Names.{IsStackName, IsResName}
use Rattle.heat_plan.proofs.Parts.{token_has_slash, token_has_two, token_parts}
use Rattle.heat_plan.proofs.token.Token.read.Goals as goal

pub returns-in_default-clause-none : goal.returns-in_default-clause-none
returns-in_default-clause-none c _ t is e = token_has_slash t _ e (c.in_default.ensures.none refl)

pub returns-in_default-parted-clause-none : goal.returns-in_default-parted-clause-none
returns-in_default-parted-clause-none c _ t is e =
    token_has_two t _ _ _ is c.in-Some.ensures.first c.in-Some.ensures.some e (c.in_default-parted.ensures.none refl)

pub returns-clause-none : goal.returns-clause-none
returns-clause-none c = IfOk-weaker c.read_parts.result _ _ (λ o unread none t is e.
    let (stack, name, row) = token_parts t _ _ _ _ _ is c.in-Some.ensures.first c.in-Some-parted.ensures.first c.in-Some.ensures.some c.in-Some-parted.ensures.some e in
    unread none t.row (subst IsStackName stack is.stack) (subst IsResName name is.name) is.row row) c.read_parts.ensures.none
