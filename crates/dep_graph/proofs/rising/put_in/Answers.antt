-- The list stays, or the node goes in where the search found its place.
use Rattle.std.proofs.Common.{Err, Ok, refl}
use Rattle.dep_graph.proofs.ListLemmas.{PutsIn-searched}
use Rattle.dep_graph.proofs.rising.put_in.Goals as goal

pub returns-in_ok-insert-clause-ok : goal.returns-in_ok-insert-clause-ok
returns-in_ok-insert-clause-ok c =
    PutsIn-searched _ _ _ (Err c.in-Err.place) c.requires (rw c.as_slice.ensures at c.in-Err.ensures.position)
    c.in_ok-insert.ensures.ok

pub returns-in_default-clause-ok : goal.returns-in_default-clause-ok
returns-in_default-clause-ok c =
    PutsIn-searched _ _ _ (Ok c.in_default.field-0) c.requires (rw c.as_slice.ensures at c.in_default.ensures.position) refl
