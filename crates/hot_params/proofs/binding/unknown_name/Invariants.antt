use Rattle.std.proofs.Common.{◌≡◌, drop}
use Rattle.heat_value.specs.Meaning.{members_of}
use Rattle.hot_params.specs.Bound.{unknown_name}
use Rattle.hot_params.proofs.binding.unknown_name.Given as goal

-- what is left decides
abbrev pub invariant-loop-member : goal.invariant-loop-member
invariant-loop-member l =
    unknown_name l.params l.given ≡ unknown_name l.params (members_of (drop l.member-index l.member-items))
