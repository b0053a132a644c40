-- Each turn takes one need more, where it is the name of an item.
use Rattle.std.proofs.Common.{ℕ, List, ◌<◌, length}
use Rattle.std.specs.Prelude.{nat_lt}
use Rattle.std.proofs.lemmas.Bool.{lt-ltb, le-ltb}
use Rattle.std.proofs.lemmas.List.Elements.{All-push}
use Rattle.traversal_graph.specs.Candidates.{place_of}
use Rattle.traversal_graph.proofs.EachLemmas.{into-pushed, into-skipped}
use Rattle.traversal_graph.proofs.candidates.needed_by.Goals as goal
use Rattle.traversal_graph.proofs.candidates.needed_by.Goals.{then-place-items+in_ok-push, else-place-items}

pub loop-need-preserved : goal.loop-need-preserved
loop-need-preserved c = elim c.if-place-items.branch [
  | then-place-items+in_ok-push w ↦ rw (w.nodes-is, w.in_ok-push.ensures.ok) (record {
    exact = λ at. rw c.place_of_name-place.ensures
        (into-pushed _ _ c.need-item.result (λ (need : List ℕ). nat_lt (place_of c.args.items.now need) (length c.args.items.now))
        (λ (need : List ℕ). place_of c.args.items.now need) _ at c.loop-need-test.true c.need-item.is
        (lt-ltb _ _ (rw c.place_of_name-place.ensures at w.if-place-items.true)) (c.loop-need.invariant.exact at));
    within = All-push (λ node. node < length c.args.items.now) _ _ c.loop-need.invariant.within w.if-place-items.true;
  })
  | else-place-items w ↦ rw w.nodes-is (record {
    exact = λ at.
        into-skipped _ _ c.need-item.result (λ (need : List ℕ). nat_lt (place_of c.args.items.now need) (length c.args.items.now))
        (λ (need : List ℕ). place_of c.args.items.now need) _ at c.loop-need-test.true c.need-item.is
        (le-ltb _ _ (rw c.place_of_name-place.ensures at w.if-place-items.false)) (c.loop-need.invariant.exact at);
    within = c.loop-need.invariant.within;
  })
]
