use Rattle.std.proofs.Common.{◌≡◌, map, take}
use Rattle.hot_forms.specs.Checks.{is_among}
use Rattle.hot_admit.proofs.needs.marks_of.Given as goal

-- the names so far are marked
abbrev pub invariant-loop-name : goal.invariant-loop-name
invariant-loop-name l =
    l.marks.items ≡ map (is_among (map (λ t. t.now) (take l.name-index l.named))) l.names
