use Rattle.std.proofs.Common.{◌∙◌, ap, sym}
use Rattle.heat_value.specs.Data.{Nodes}
use Rattle.heat_value.specs.Meaning.{data_of}
use Rattle.hot_groups.proofs.Listed.{put_all_behind, before-none}
use Rattle.hot_groups.proofs.Places.{nodes_at, nodes_end}
use Rattle.hot_groups.specs.References.{all_named, named_by, nodes_before}
use Rattle.hot_groups.proofs.meaning.all_named.Goals as goal

pub loop-name-preserved : goal.loop-name-preserved
loop-name-preserved c =
    put_all_behind c.loop-name.all c.push_named.new.all
    (named_by c.args.groups.now (data_of c.name-item.result)) _ _ _
    (ap (all_named c.args.groups.now)
    (nodes_at c.args.names.now c.loop-name.name-index c.name-item.result c.loop-name-test.true c.name-item.is))
    c.in_ok-push_named.ensures c.loop-name.invariant

pub returns : goal.returns
returns c =
    sym (c.loop-name.invariant
    ∙ ap (λ (ns : Nodes). nodes_before c.loop-name.all (all_named c.args.groups.now ns))
    (nodes_end c.args.names.now c.loop-name.name-index c.loop-name-test.false) ∙ before-none c.loop-name.all)
