use Rattle.std.proofs.Common.{◌≡◌, ◌∷◌, Err, rules}
use Rattle.core_state.specs.Applies.{AllApply}
use Rattle.core_state.specs.declared.apply_fault.ApplyFault.TheVariants.{Bad}
use Rattle.state_images.proofs.Making.{list_bad, list_made}
use Rattle.state_images.proofs.replaying.make_all.Goals as goal

pub loop-list-preserved : goal.loop-list-preserved
loop-list-preserved c =
    let e : c.loop-list.list-iterator.rest.items ≡ c.in-Some.list ∷ c.next.new.self.rest.items = search rules in
    list_made c.in-Some.list _ _ _ _ _ _ e c.in_ok-make.ensures.ok c.in_ok-make.ensures.gives c.loop-list.invariant

pub returns-in_err-make-clause-bad : goal.returns-in_err-make-clause-bad
returns-in_err-make-clause-bad c =
    let e : c.loop-list.list-iterator.rest.items ≡ c.in-Some.list ∷ c.next.new.self.rest.items = search rules in
    let n : c.from_residual.result ≡ Err Bad → AllApply c.in-Some.list c.loop-list.state.state → ⊥ = search rules in
    λ is. list_bad c.in-Some.list _ _ _ _ _ e c.loop-list.invariant (n is)
