use Rattle.std.proofs.Common.{◌≡◌, take}
use Rattle.sim_cloud.specs.Rule.{attrs_of}
use Rattle.sim_cloud.proofs.rule.values.Given as goal

abbrev pub invariant-loop-name : goal.invariant-loop-name
invariant-loop-name l = l.all ≡ attrs_of (take l.name-index l.name-items) l.props l.row
