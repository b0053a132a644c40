use Rattle.std.proofs.Common.{◌∙◌, ap, map}
use denote.Ref.{Bor}
use Rattle.heat_value.specs.Meaning.{data_of, nodes_of}
use Rattle.heat_value.specs.declared.value.Value.{Value}
use Rattle.hot_eval.proofs.Joins.{next_list, all_lists, nodes_of-append}
use Rattle.hot_eval.proofs.Places.{nodes_at, nodes_end, behind}
use Rattle.hot_eval.proofs.lists.concatenated.Goals as goal

pub loop-list-preserved : goal.loop-list-preserved
loop-list-preserved c =
    next_list (behind c.loop-list.all.items) _ (nodes_of c.in-Some.items.now) _ _ (data_of c.list-item.result) _
    (nodes_at c.args.lists.now c.loop-list.list-index c.list-item.result c.loop-list-test.true c.list-item.is)
    c.in-Some.ensures
    (ap nodes_of c.in_ok-add_all-in-Some.ensures ∙ nodes_of-append (map (λ (v : Bor Value). v.now) c.loop-list.all.items) c.in-Some.items.now)
    c.loop-list.invariant

pub returns : goal.returns
returns c = all_lists _ _ _ (nodes_end c.args.lists.now _ c.loop-list-test.false) c.loop-list.invariant
