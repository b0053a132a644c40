use Rattle.std.proofs.Common.{◌≡◌, ◌++◌, drop, map, filter}
use Rattle.hot_forms.specs.Checks.{is_among}
use Rattle.hot_admit.proofs.needs.those_among.Given as goal

-- those so far, and those of what is left
abbrev pub invariant-loop-place : goal.invariant-loop-place
invariant-loop-place l =
    l.those ++ filter (is_among (map (λ t. t.now) l.named)) (drop l.place l.names)
    ≡ filter (is_among (map (λ t. t.now) l.named)) l.names
