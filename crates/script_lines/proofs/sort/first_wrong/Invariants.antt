use Rattle.std.proofs.Common.{ℕ, List, drop}
use Rattle.heat_value.specs.Meaning.{members_of}
use Rattle.script_lines.specs.BodyKeys.{AreRight, IsFirstWrong}
use Rattle.script_lines.proofs.sort.first_wrong.Given as goal

-- what is left decides
abbrev pub invariant-loop-member : goal.invariant-loop-member
invariant-loop-member l =
    (AreRight (members_of (drop l.member-index l.member-items)) → AreRight l.members)
    × ((k : List ℕ) → IsFirstWrong (members_of (drop l.member-index l.member-items)) k → IsFirstWrong l.members k)
