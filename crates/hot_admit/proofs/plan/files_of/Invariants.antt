use Rattle.std.proofs.Common.{◌≡◌, ◌++◌, drop}
use Rattle.heat_value.specs.Meaning.{members_of}
use Rattle.hot_admit.specs.Plans.{files_of}
use Rattle.hot_admit.proofs.plan.files_of.Given as goal

-- those so far and those left are all
abbrev pub invariant-loop-member : goal.invariant-loop-member
invariant-loop-member l = l.all ++ files_of (members_of (drop l.member-index l.members)) ≡ files_of l.files
