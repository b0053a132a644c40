use Rattle.hot_eval.proofs.Listings.{empty_list, next_zero, all_zeros}
use Rattle.hot_eval.proofs.walk.first_places.Goals as goal

pub returns-then-is_empty : goal.returns-then-is_empty
returns-then-is_empty c =
    empty_list c.args.lists.now c.loop-list.list-index c.list-item.result _ c.is_empty.result c.loop-list-test.true
    c.list-item.is c.is_empty.ensures c.if-is_empty.true

pub loop-list-preserved : goal.loop-list-preserved
loop-list-preserved c =
    next_zero c.args.lists.now c.loop-list.list-index c.list-item.result _ c.is_empty.result c.loop-list.places.items _
    c.loop-list-test.true c.list-item.is c.is_empty.ensures c.if-is_empty.false c.in_ok-push.ensures.items
    c.loop-list.invariant

pub returns : goal.returns
returns c = all_zeros c.args.lists.now c.loop-list.list-index c.loop-list.places.items c.loop-list-test.false c.loop-list.invariant
