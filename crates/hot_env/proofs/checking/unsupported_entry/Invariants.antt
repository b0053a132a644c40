use Rattle.std.proofs.Common.{◌≡◌, drop}
use Rattle.heat_value.specs.Meaning.{members_of}
use Rattle.hot_env.specs.Codes.{first_entry}
use Rattle.hot_env.specs.Checks.{unsupported_entry}
use Rattle.hot_env.proofs.checking.unsupported_entry.Given as goal

-- what is left decides
abbrev pub invariant-loop-member : goal.invariant-loop-member
invariant-loop-member l =
    first_entry unsupported_entry l.fields ≡ first_entry unsupported_entry (members_of (drop l.member-index l.member-items))
