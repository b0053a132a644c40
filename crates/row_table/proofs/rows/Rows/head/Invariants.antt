use Rattle.std.proofs.Common.{◌-◌, ◌^◌}
use Rattle.row_table.proofs.Chains.{Follows}
use Rattle.row_table.proofs.rows.Rows.head.Given as goal

abbrev pub invariant-loop-next : goal.invariant-loop-next
invariant-loop-next g l = Follows (g.Self.Rows.content l.self).items l.fn.no l.last

abbrev pub decreases-loop-next : goal.decreases-loop-next
decreases-loop-next g l = 2 ^ 62 - l.last
