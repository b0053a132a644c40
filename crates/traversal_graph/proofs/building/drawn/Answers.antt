use Rattle.traversal_graph.proofs.DrawLemmas.{acyclic_list}
use Rattle.traversal_graph.proofs.building.drawn.Goals as goal

pub returns-clause-acyclic : goal.returns-clause-acyclic
returns-clause-acyclic c = acyclic_list _ c.in_ok-draw_all.ensures.draft_is
