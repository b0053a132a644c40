use Rattle.std.proofs.Common.{◌≡◌, drop}
use Rattle.std.specs.List.{position_from}
use Rattle.keyed_table.proofs.list_table.ListTable.find.Given as goal

abbrev pub invariant-loop-i : goal.invariant-loop-i
invariant-loop-i g l = position_from (λ x. g.T.Keyed.same (g.T.Keyed.key_of x) l.key) 0 l.self.items ≡ position_from (λ x. g.T.Keyed.same (g.T.Keyed.key_of x) l.key) l.i (drop l.i l.self.items)
