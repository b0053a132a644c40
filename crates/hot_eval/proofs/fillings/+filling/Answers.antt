use Rattle.heat_value.specs.Meaning.{data_of}
use Rattle.hot_eval.specs.Repeats.{choice_of}
use Rattle.hot_eval.proofs.Fills.{filling_step, filling_all, keys_step}
use Rattle.hot_eval.proofs.Places.{nodes_at, nodes_end, members_at}
use Rattle.hot_eval.proofs.fillings.+filling.Goals as goal

pub items_filled-loop-value-preserved : goal.items_filled-loop-value-preserved
items_filled-loop-value-preserved t c =
    filling_step (choice_of c.args.choice.now) c.args.room.now c.loop-value.room c.item_filled.new.room c.loop-value.same
    c.in-Some.now c.loop-value.items c.item_filled.new.items _ _ _ (data_of c.value-item.result)
    (nodes_at c.args.values.now c.loop-value.value-index c.value-item.result c.loop-value-test.true c.value-item.is)
    (rw c.in-Some.is at c.in_ok-now.ensures) c.loop-value.invariant

pub items_filled-returns : goal.items_filled-returns
items_filled-returns t c =
    filling_all (choice_of c.args.choice.now) c.args.room.now c.loop-value.room c.loop-value.same c.loop-value.items _ _
    (nodes_end c.args.values.now _ c.loop-value-test.false) c.if-same.false c.loop-value.invariant

pub fields_filled-loop-member-preserved : goal.fields_filled-loop-member-preserved
fields_filled-loop-member-preserved t c =
    keys_step (choice_of c.args.choice.now) c.args.room.now c.loop-member.room c.member_filled.new.room c.loop-member.same
    c.in-Some.now c.loop-member.fields c.member_filled.new.fields _ _ _ c.member-item.result.key
    (data_of c.member-item.result.value)
    (members_at c.args.members.now c.loop-member.member-index c.member-item.result c.loop-member-test.true c.member-item.is)
    (rw c.in-Some.is at c.in_ok-now.ensures) c.loop-member.invariant
