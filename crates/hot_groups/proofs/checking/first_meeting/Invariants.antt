use Rattle.std.proofs.Common.{◌≡◌, ◌-◌}
use Rattle.hot_groups.specs.Checks.{meeting_from}
use Rattle.hot_groups.proofs.checking.first_meeting.Given as goal

-- the members that are left decide
abbrev pub invariant-loop-i : goal.invariant-loop-i
invariant-loop-i l =
    meeting_from l.index_var l.props 0 l.count ≡ meeting_from l.index_var l.props l.i (l.count - l.i)
