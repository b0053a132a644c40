-- A node that reaches the goal and isn't it has a successor that does.
use Rattle.std.proofs.Common.{Some}
use Rattle.dep_graph.proofs.MarkLemmas.{neighbours_within, least_of_kind}
use Rattle.dep_graph.proofs.ClosingLemmas.{GoesTowards-marked, goes_on}
use Rattle.dep_graph.proofs.closing.step_towards.Goals as goal

pub first_marked-requires-clause-within : goal.first_marked-requires-clause-within
first_marked-requires-clause-within c =
    neighbours_within _ _ _ c.succs.ensures.exact (λ x edge. rw c.requires.size (c.succs.ensures.joins _ x edge).1)

pub unreachable-requires : goal.unreachable-requires
unreachable-requires c =
    let next = goes_on _ _ _ _ c.succs.ensures.joins c.requires.size c.requires.exact c.requires.node c.requires.on in
    c.in-None.ensures next.0 ((c.succs.ensures.exact.each next.0).1 next.1) next.2

pub returns-clause-step : goal.returns-clause-step
returns-clause-step c =
    GoesTowards-marked _ _ _ _ _ c.succs.ensures.joins c.requires.size c.requires.exact
    (least_of_kind _ _ _ (Some c.in-Some.succ) c.succs.ensures.exact c.in-Some.ensures)
