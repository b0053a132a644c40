-- The search gives the place where the node goes in.
use Rattle.std.proofs.Common.{Err, refl}
use Rattle.dep_graph.proofs.ListLemmas.{PutsIn-searched}
use Rattle.dep_graph.proofs.edges.place_for.Goals as goal

pub returns-in-Err : goal.returns-in-Err
returns-in-Err c = (
  rw c.as_slice.ensures at c.in-Err.ensures.bound,
  PutsIn-searched _ _ _ (Err c.in-Err.place) c.requires (rw c.as_slice.ensures at c.in-Err.ensures.position) refl,
)
