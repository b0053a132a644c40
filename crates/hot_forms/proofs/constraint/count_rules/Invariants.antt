use Rattle.std.proofs.Common.{◌≡◌, ◌≤◌, ◌+◌, drop}
use Rattle.heat_value.specs.Meaning.{members_of}
use Rattle.hot_forms.specs.Constraints.{count_rules}
use Rattle.hot_forms.proofs.constraint.count_rules.Given as goal

-- those so far and those left are all
abbrev pub invariant-loop-member : goal.invariant-loop-member
invariant-loop-member l =
    (l.count ≤ l.member-index)
    × (l.count + count_rules (members_of (drop l.member-index l.member-items)) ≡ count_rules l.fields)
