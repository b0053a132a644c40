use Rattle.std.proofs.Common.{◌≡◌, drop, map}
use Rattle.heat_value.specs.Meaning.{members_of}
use Rattle.hot_forms.specs.Checks.{unknown_key}
use Rattle.hot_forms.proofs.check.unknown_key.Given as goal

-- what is left decides
abbrev pub invariant-loop-member : goal.invariant-loop-member
invariant-loop-member l =
    unknown_key l.code (map (λ n. n.now) l.known) l.members
    ≡ unknown_key l.code (map (λ n. n.now) l.known) (members_of (drop l.member-index l.member-items))
