-- A node that leads to none of its rank is on no loop; of another the marks tell.
use Rattle.std.proofs.Common.{◌∙◌, sym}
use Rattle.std.proofs.lemmas.Bool.{false≢true}
use Rattle.dep_graph.proofs.MarkLemmas.{neighbours_within}
use Rattle.dep_graph.proofs.LoopLemmas.{loop_has_rank, marked_loops}
use Rattle.dep_graph.proofs.least.is_on_loop.Goals as goal

pub any_has_rank-requires : goal.any_has_rank-requires
any_has_rank-requires c =
    neighbours_within _ _ _ c.succs-nexts.ensures.exact
    (λ x edge. rw c.requires.ranks.count (c.succs-nexts.ensures.joins _ x edge).1)

pub returns-then-not-any_has_rank : goal.returns-then-not-any_has_rank
returns-then-not-any_has_rank c = (
  λ h. absurd (false≢true h),
  λ loop. absurd (false≢true (sym c.if-not-any_has_rank.true ∙ c.any_has_rank.ensures.1
      (loop_has_rank _ _ _ _ _ _ c.requires.ranks c.succs-nexts.ensures.exact loop))),
)

pub returns : goal.returns
returns c =
    let loops = marked_loops c.args.graph.now c.args.node c.succs-nexts.result.now c.in_ok-reaching.reaching
    c.succs-nexts.ensures.exact c.succs-nexts.ensures.joins c.in_ok-reaching.ensures.size
    c.in_ok-reaching.ensures.exact in
    (λ b. loops.0 (c.any_marked.ensures.0 b), λ h. c.any_marked.ensures.1 (loops.1 h))
