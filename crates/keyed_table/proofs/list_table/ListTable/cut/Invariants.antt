use Rattle.std.proofs.Common.{◌≡◌, ◌++◌, ◌≤◌, take, drop}
use Rattle.heat_plan.specs.Tables.{cut}
use Rattle.keyed_table.proofs.list_table.ListTable.cut.Given as goal

abbrev pub invariant-loop-at : goal.invariant-loop-at
invariant-loop-at g l =
    (l.self-inside.all.items ≡ take l.at l.fn.self.items ++ cut g.T.Keyed.same g.T.Keyed.key_of l.key (drop l.at l.fn.self.items))
    × (l.fn.self.spare ≤ l.self-inside.all.spare)
