use Rattle.std.proofs.Common.{◌≡◌, drop}
use Rattle.heat_value.specs.Meaning.{members_of}
use Rattle.hot_admit.specs.Kinds.{first_unknown}
use Rattle.hot_admit.proofs.kinds.first_unknown.Given as goal

-- what is left decides
abbrev pub invariant-loop-place : goal.invariant-loop-place
invariant-loop-place l =
    first_unknown l.kind (members_of l.members) ≡ first_unknown l.kind (members_of (drop l.place l.members))
