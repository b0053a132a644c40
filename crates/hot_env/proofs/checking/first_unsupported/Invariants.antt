use Rattle.std.proofs.Common.{◌≡◌, drop}
use Rattle.heat_value.specs.Meaning.{members_of}
use Rattle.hot_env.specs.Codes.{first_entry}
use Rattle.hot_env.specs.Checks.{unsupported}
use Rattle.hot_env.proofs.checking.first_unsupported.Given as goal

-- what is left decides
abbrev pub invariant-loop-member : goal.invariant-loop-member
invariant-loop-member l =
    first_entry unsupported l.fields ≡ first_entry unsupported (members_of (drop l.member-index l.member-items))
