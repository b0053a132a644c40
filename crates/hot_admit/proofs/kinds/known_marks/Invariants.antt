use Rattle.std.proofs.Common.{◌≡◌, map, take}
use Rattle.heat_value.specs.Data.{keys_of}
use Rattle.heat_value.specs.Meaning.{members_of}
use Rattle.hot_forms.specs.Checks.{is_among}
use Rattle.hot_admit.proofs.kinds.known_marks.Given as goal

-- the names so far are marked
abbrev pub invariant-loop-prop : goal.invariant-loop-prop
invariant-loop-prop l =
    l.marks.items ≡ map (is_among (map (λ p. p.name) (take l.prop-index l.props))) (keys_of (members_of l.members))
