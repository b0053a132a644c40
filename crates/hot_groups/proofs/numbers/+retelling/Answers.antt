use Rattle.std.proofs.Common.{refl}
use Rattle.hot_groups.specs.Numbers.{retold, nodes_retold}
use Rattle.hot_strings.specs.Answers.{with_values}
use Rattle.hot_groups.proofs.Listed.{one_more}
use Rattle.hot_groups.proofs.numbers.+retelling.Goals as goal

pub nodes_retold-loop-value-preserved : goal.nodes_retold-loop-value-preserved
nodes_retold-loop-value-preserved t c =
    rw (c.in_ok-push.ensures.ok, c.loop-value.invariant) (one_more (nodes_retold (with_values c.args.numbering.now))
    (retold (with_values c.args.numbering.now)) refl (λ d ns. refl) c.args.values.now c.loop-value.value-index
    c.value-item.result _ c.loop-value-test.true c.value-item.is c.in_ok-retold.ensures)
