use Rattle.std.proofs.Common.{◌∙◌, ap, sym}
use Rattle.heat_value.specs.Data.{node_last}
use Rattle.heat_value.specs.Meaning.{data_of, nodes_of}
use Rattle.hot_eval.proofs.Joins.{next_left, next_out, all_left}
use Rattle.hot_eval.proofs.Places.{nodes_at, nodes_end}
use Rattle.hot_eval.proofs.lists.without.Goals as goal
use Rattle.hot_eval.proofs.lists.without.Goals.{then-not-was_seen+in_ok-copy+in_ok-push, else-not-was_seen}

pub loop-item-preserved : goal.loop-item-preserved
loop-item-preserved c =
    let out = nodes_of c.args.out.now in
    let d = data_of c.item-item.result in
    let at = nodes_at c.args.from.now c.loop-item.item-index c.item-item.result c.loop-item-test.true c.item-item.is in
    elim c.if-not-was_seen.branch [
      | then-not-was_seen+in_ok-copy+in_ok-push w ↦ next_left out c.loop-item.items _ _ _ _ d at
          (sym (c.was_seen.ensures _ c.in_ok-seen.ensures) ∙ w.if-not-was_seen.true)
          (w.items-is ∙ (w.in_ok-push.ensures.ok ∙ ap (λ v. node_last c.loop-item.items (data_of v)) w.in_ok-copy.ensures))
          c.loop-item.invariant
      | else-not-was_seen w ↦ next_out out c.loop-item.items _ _ _ _ d at (sym (c.was_seen.ensures _ c.in_ok-seen.ensures) ∙ w.if-not-was_seen.false) w.items-is
          c.loop-item.invariant
    ]

pub returns : goal.returns
returns c = all_left (nodes_of c.args.out.now) _ _ _ (nodes_end c.args.from.now _ c.loop-item-test.false) c.loop-item.invariant
