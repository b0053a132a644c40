use Rattle.std.proofs.Common.{◌≡◌, ◌∷◌, rules}
use Rattle.core_state.specs.Applies.{Applies}
use Rattle.state_images.proofs.Making.{applies_then, one_made}
use Rattle.state_images.proofs.replaying.make.Goals as goal

pub loop-change-preserved : goal.loop-change-preserved
loop-change-preserved c =
    let e : c.loop-change.change-iterator.rest.items ≡ c.in-Some.change ∷ c.next.new.self.rest.items = search rules in
    let a : Applies c.loop-change.state.state c.in-Some.change =
    applies_then c.loop-change.state.state c.in-Some.change (λ n. let f = c.in_ok-apply.ensures.bad.1 n in cc) in
    one_made c.in-Some.change _ _ _ _ _ _ e a c.in_ok-apply.ensures.ok c.loop-change.invariant
