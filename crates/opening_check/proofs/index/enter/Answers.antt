use Rattle.std.proofs.Common.{◌≡◌, ◌∙◌, ◌++◌, ◌∷◌, List, [], ap, sym, subst}
use Rattle.std.specs.Prelude.{All, false}
use Rattle.heat_plan.specs.declared.token.Token.{Token as token_type}
use Rattle.provider.specs.Same.{same_token}
use Rattle.opening_check.specs.declared.listed.Listed.{Listed}
use Rattle.opening_check.proofs.PlacesLemmas.{all_apart, pushed, unentered}
use Rattle.opening_check.proofs.index.enter.Goals as goal

-- src/index.rt:45:5
pub push-requires-clause-new_key : goal.push-requires-clause-new_key
push-requires-clause-new_key c =
    subst (λ (xs : List Listed). All (λ (l : Listed). same_token l.token c.in_ok-copy.field-0 ≡ false) xs) (sym c.in_ok-reserve.ensures.same)
    (subst (λ (t : token_type). All (λ (l : Listed). same_token l.token t ≡ false) c.args.index.now.items) (sym c.in_ok-copy.ensures)
    (all_apart c.args.index.now.items c.args.token.now
    (unentered c.args.index.now.items c.args.token.now c.get.result c.get.ensures (sym c.is_some.ensures ∙ c.if-is_some.false))))

-- src/index.rt:37:1
pub returns : goal.returns
returns c = pushed c.args.index.now.items c.push.new.self.items c.args.token.now c.args.place (
    c.push.ensures.items
    ∙ ap (λ (xs : List Listed). xs ++ record { token = c.in_ok-copy.field-0; place = c.args.place } ∷ []) c.in_ok-reserve.ensures.same
    ∙ ap (λ (t : token_type). c.args.index.now.items ++ record { token = t; place = c.args.place } ∷ []) c.in_ok-copy.ensures)
