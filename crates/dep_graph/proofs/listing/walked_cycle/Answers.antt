-- The walk goes back along the least predecessors left, and none comes twice before it ends.
use Rattle.std.proofs.Common.{◌≡◌, ◌<◌, ◌+◌, ◌++◌, ◌∷◌, [], eqb, length, refl, sym, ap, ◌∙◌, arith}
use Rattle.std.specs.Prelude.{All}
use Rattle.std.specs.List.{IsDistinct}
use Rattle.std.proofs.lemmas.Bool.{false≢true}
use Rattle.std.proofs.lemmas.List.{length_push, length-set, length-replicate}
use Rattle.std.proofs.lemmas.List.Elements.{All-nil, All-push}
use Rattle.std.proofs.lemmas.Result.{IfOk-weaker}
use Rattle.dep_graph.proofs.MarkLemmas.{IsMarked-within}
use Rattle.dep_graph.proofs.PathLemmas.{IsPath-push}
use Rattle.dep_graph.proofs.OrderLemmas.{IsDistinct-none, IsDistinct-fresh}
use Rattle.dep_graph.proofs.CycleLemmas.{GoesBack-marked, start_left, walk_short, met_none, met_more, FindsCycle-walk}
use Rattle.dep_graph.proofs.listing.walked_cycle.Goals as goal

pub loop-met-init : goal.loop-met-init
loop-met-init c = rw (c.new-walk.ensures, c.in_ok-met.ensures) (record {
  walk = (refl, refl);
  marked = c.requires.least.is;
  below = All-nil (λ x. x < length c.args.graph.now);
  once = IsDistinct-none;
  size = length-replicate _ _ ∙ c.size.ensures.size;
  met = met_none _;
})

pub put-requires : goal.put-requires
put-requires c =
    rw (c.loop-met.invariant.size, ← c.requires.size) (IsMarked-within _ _ c.loop-met.invariant.marked)

-- the walk with its next node, none twice, all of the graph
abbrev Longer : goal.After-step_back-at → Type 0
Longer c = IsDistinct eqb (c.loop-met.walk ++ c.loop-met.at ∷ [])
    × All (λ x. x < length c.args.graph.now) (c.loop-met.walk ++ c.loop-met.at ∷ [])

longer : (c : goal.After-step_back-at) → Longer c
longer c = (
  IsDistinct-fresh _ _ c.loop-met.invariant.once
      (λ k. false≢true (sym c.loop-met-test.true ∙ c.has.ensures.1 ((c.loop-met.invariant.met _).1 k))),
  All-push (λ x. x < length c.args.graph.now) _ _ c.loop-met.invariant.below
      (rw (← c.requires.size) (IsMarked-within _ _ c.loop-met.invariant.marked)),
)

pub loop-met-smaller : goal.loop-met-smaller
loop-met-smaller c =
    let short : length c.loop-met.walk < length c.args.graph.now = walk_short _ _ _ (longer c).0 (longer c).1 in
    let more : length c.push.new.self ≡ length c.loop-met.walk + 1 =
    ap length c.in_ok-push.ensures.ok ∙ length_push _ _ in
    omega (arith, short, more)

pub loop-met-preserved : goal.loop-met-preserved
loop-met-preserved c = rw (c.in_ok-push.ensures.ok, c.put.ensures) (record {
  walk = IsPath-push _ _ _ _ _ c.loop-met.invariant.walk
      (GoesBack-marked _ _ _ _ c.requires.joins c.requires.size c.requires.left c.step_back-at.ensures);
  marked = c.step_back-at.ensures.is.1;
  below = (longer c).1;
  once = (longer c).0;
  size = length-set _ _ _ ∙ c.loop-met.invariant.size;
  met = met_more _ _ _ (rw (c.loop-met.invariant.size, ← c.requires.size) (IsMarked-within _ _ c.loop-met.invariant.marked))
      c.loop-met.invariant.met;
})

pub from_node-requires : goal.from_node-requires
from_node-requires c =
    rw c.as_slice.ensures ((c.loop-met.invariant.met _).0 (c.has.ensures.0 c.loop-met-test.false))

pub returns : goal.returns
returns c = IfOk-weaker c.from_node.result _ _ (λ cycle is.
    FindsCycle-walk _ c.loop-met.walk cycle c.args.least c.loop-met.at is.0
    (start_left _ _ _ c.requires.size c.requires.left c.requires.joins c.requires.least)
    c.loop-met.invariant.walk c.loop-met.invariant.once
    (rw c.as_slice.ensures at is.1) (rw c.as_slice.ensures at is.2) (rw c.as_slice.ensures at is.3))
    c.from_node.ensures
