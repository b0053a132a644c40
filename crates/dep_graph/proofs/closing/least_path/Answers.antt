-- Each step goes on along an edge, so the path stays within the nodes.
use Rattle.std.proofs.Common.{◌≡◌, ◌<◌, ◌≤◌, ◌+◌, ◌++◌, ◌∷◌, [], length, ap, ◌∙◌, arith}
use Rattle.std.specs.Prelude.{All}
use Rattle.std.proofs.lemmas.List.{length_push}
use Rattle.std.proofs.lemmas.List.Elements.{All-push}
use Rattle.dep_graph.specs.Paths.{IsPath}
use Rattle.dep_graph.specs.Edges.{HasEdge}
use Rattle.dep_graph.specs.Closings.{GoesTowards}
use Rattle.dep_graph.proofs.PathLemmas.{IsPath-push}
use Rattle.dep_graph.proofs.MarkLemmas.{IsMarked-within}
use Rattle.dep_graph.proofs.ClosingLemmas.{path_short}
use Rattle.dep_graph.proofs.closing.least_path.Goals as goal

-- the path with its next node, all of the graph
abbrev Longer : goal.In_ok-push-2 → Type 0
Longer c =
    IsPath (GoesTowards (HasEdge c.args.graph.now) c.args.goal) c.args.from c.step_towards-at.result
    (c.loop-at.path ++ c.step_towards-at.result ∷ [])
    × All (λ x. x < length c.args.graph.now) (c.loop-at.path ++ c.step_towards-at.result ∷ [])

longer : (c : goal.In_ok-push-2) → Longer c
longer c = (
  IsPath-push _ _ _ _ _ c.loop-at.invariant.path c.step_towards-at.ensures.step,
  All-push (λ x. x < length c.args.graph.now) _ _ c.loop-at.invariant.below
      (rw (← c.requires.size) (IsMarked-within _ _ c.step_towards-at.ensures.marked)),
)

pub loop-at-smaller : goal.loop-at-smaller
loop-at-smaller c =
    let short : length (c.loop-at.path ++ c.step_towards-at.result ∷ []) ≤ length c.args.graph.now =
    path_short _ _ _ _ _ c.requires.acyclic (longer c).0 (longer c).1 in
    let more : length c.push-in-loop-at.new.self ≡ length c.loop-at.path + 1 =
    ap length c.in_ok-push-2.ensures.ok ∙ length_push _ _ in
    omega (arith, short, more, length_push c.loop-at.path c.step_towards-at.result)

pub loop-at-preserved : goal.loop-at-preserved
loop-at-preserved c = rw c.in_ok-push-2.ensures.ok (record {
  path = (longer c).0;
  marked = c.step_towards-at.ensures.marked;
  below = (longer c).1;
})
