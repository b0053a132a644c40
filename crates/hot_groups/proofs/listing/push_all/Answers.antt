use Rattle.std.proofs.Common.{◌∙◌, ap, sym}
use Rattle.heat_value.specs.Meaning.{data_of}
use Rattle.hot_groups.proofs.Listed.{put_behind, before-none}
use Rattle.hot_groups.proofs.Places.{nodes_at, nodes_end}
use Rattle.hot_groups.specs.References.{nodes_before}
use Rattle.hot_groups.proofs.listing.push_all.Goals as goal

pub loop-value-preserved : goal.loop-value-preserved
loop-value-preserved c =
    put_behind c.loop-value.all c.push.new.self (data_of c.value-item.result) _ _ _ _
    (nodes_at c.args.values.now c.loop-value.value-index c.value-item.result c.loop-value-test.true c.value-item.is)
    (ap data_of c.in_ok-copy.ensures) c.in_ok-push.ensures.ok c.loop-value.invariant

pub returns : goal.returns
returns c =
    sym (c.loop-value.invariant
    ∙ ap (nodes_before c.loop-value.all) (nodes_end c.args.values.now c.loop-value.value-index c.loop-value-test.false)
    ∙ before-none c.loop-value.all)
