use Rattle.std.proofs.Common.{◌≡◌, ◌∙◌, subst}
use Rattle.std.specs.Prelude.{IfSome}
use Rattle.heat_plan.specs.Tokens.{token_text}
use Rattle.cloud_file.specs.Sorts.{token_read}
use Rattle.cloud_file.proofs.sorts.token_of.Goals as goal

pub returns-in-Some-clause-read : goal.returns-in-Some-clause-read
returns-in-Some-clause-read c = token_read c.in-Some.token c.free.ensures.grammar
    (subst (λ o. IfSome o (λ t. token_text t ≡ c.as_bytes.result.now)) c.in-Some.is c.in_ok-token.ensures.some
    ∙ c.as_bytes.ensures.value)
    c.free.ensures.read
