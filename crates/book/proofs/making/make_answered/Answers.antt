use Rattle.std.proofs.Common.{List, subst, sym}
use Rattle.core_state.specs.Applies.{AllApply}
use Rattle.core_state.specs.declared.change.Change.{Change}
use Rattle.step_relation.specs.Images.{AreKeepable}
use Rattle.book.proofs.Keepers.{may_append}
use Rattle.book.proofs.making.make_answered.Goals as goal

pub keep-requires-clause-keepable : goal.keep-requires-clause-keepable
keep-requires-clause-keepable g c = subst AreKeepable (sym c.as_slice.ensures) c.requires.storable.keepable

pub keep-requires-clause-applies : goal.keep-requires-clause-applies
keep-requires-clause-applies g c s stands = subst (λ (cs : List Change). AllApply cs s) (sym c.as_slice.ensures)
    (may_append _ _ _ c.requires.ready c.requires.storable s stands)
