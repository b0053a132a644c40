use Rattle.std.proofs.Common.{◌≡◌, drop}
use Rattle.heat_value.specs.Meaning.{members_of}
use Rattle.hot_env.specs.Codes.{first_entry}
use Rattle.hot_env.specs.Checks.{misshapen}
use Rattle.hot_env.proofs.checking.first_misshapen.Given as goal

-- what is left decides
abbrev pub invariant-loop-member : goal.invariant-loop-member
invariant-loop-member l =
    first_entry misshapen l.fields ≡ first_entry misshapen (members_of (drop l.member-index l.member-items))
