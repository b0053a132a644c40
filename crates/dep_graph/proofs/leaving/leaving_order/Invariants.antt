use Rattle.std.proofs.Common.{length}
use Rattle.dep_graph.specs.Marks.{unmarked_count}
use Rattle.dep_graph.proofs.RankCountLemmas.{left_to_do}
use Rattle.dep_graph.proofs.VisitLemmas.{IsSearch}
use Rattle.dep_graph.proofs.leaving.leaving_order.Given as goal

abbrev pub invariant-loop-visit : goal.invariant-loop-visit
invariant-loop-visit l = IsSearch (length l.graph) l.entered.items l.order.items l.visits.items

abbrev pub decreases-loop-visit : goal.decreases-loop-visit
decreases-loop-visit l = left_to_do (length l.graph) (unmarked_count l.entered.items) (length l.visits.items)
