use Rattle.std.proofs.Common.{◌∙◌, sym}
use Rattle.heat_value.specs.Meaning.{data_of}
use Rattle.hot_groups.proofs.Meant.{made_more, made_all}
use Rattle.hot_groups.proofs.expanding.put_members.Goals as goal

pub loop-i-preserved : goal.loop-i-preserved
loop-i-preserved c =
    made_more c.args.group.now.key (data_of c.args.group.now.value) c.loop-i.i c.args.count c.loop-i.all c.put.new.self
    _ _ _ c.loop-i-test.true c.in_ok-name.ensures c.in_ok-made.ensures c.in_ok-put.ensures.ok c.loop-i.invariant

pub returns : goal.returns
returns c = sym (c.loop-i.invariant ∙ made_all c.args.group.now.key (data_of c.args.group.now.value) c.loop-i.i c.args.count c.loop-i.all c.loop-i-test.false)
