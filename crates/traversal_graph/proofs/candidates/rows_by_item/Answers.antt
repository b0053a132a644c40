-- Each turn puts one row more into the list of its item.
use Rattle.traversal_graph.proofs.FanLemmas.{OwnsRows-all, OwnsRows-more, OwnsRows-none, OwnsRows-past}
use Rattle.traversal_graph.proofs.candidates.rows_by_item.Goals as goal
use Rattle.traversal_graph.proofs.candidates.rows_by_item.Goals.{then-place-items+in_ok-push_to, else-place-items}

pub loop-r-init : goal.loop-r-init
loop-r-init c = rw c.in_ok-all.ensures (OwnsRows-none c.args.items.now)

pub loop-r-preserved : goal.loop-r-preserved
loop-r-preserved c = elim c.if-place-items.branch [
  | then-place-items+in_ok-push_to w ↦ rw w.all-is
      (OwnsRows-more c.args.items.now c.args.rows.now c.loop-r.r c.index-rows-r.result c.loop-r-test.true c.index-rows-r.is
      c.place_of_name-place.result _ _ c.place_of_name-place.ensures w.if-place-items.true c.loop-r.invariant w.in_ok-push_to.ensures)
  | else-place-items w ↦ rw w.all-is
      (OwnsRows-past c.args.items.now c.args.rows.now c.loop-r.r c.index-rows-r.result c.loop-r-test.true c.index-rows-r.is
      _ (rw c.place_of_name-place.ensures at w.if-place-items.false) c.loop-r.invariant)
]

pub returns : goal.returns
returns c = OwnsRows-all _ _ _ _ c.loop-r-test.false c.loop-r.invariant
