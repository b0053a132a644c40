use Rattle.std.proofs.Common.{◌≡◌, drop}
use Rattle.heat_plan.specs.Tables.{at}
use Rattle.keyed_table.proofs.list_table.ListTable.get.Given as goal

abbrev pub invariant-loop-item : goal.invariant-loop-item
invariant-loop-item g l = at g.T.Keyed.same g.T.Keyed.key_of l.self.items l.key ≡ at g.T.Keyed.same g.T.Keyed.key_of (drop l.item-index l.self.items) l.key
