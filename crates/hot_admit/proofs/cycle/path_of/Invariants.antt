use Rattle.std.proofs.Common.{◌≡◌, take}
use Rattle.hot_admit.specs.Cycles.{names_at}
use Rattle.hot_admit.proofs.cycle.path_of.Given as goal

-- the names so far
abbrev pub invariant-loop-place : goal.invariant-loop-place
invariant-loop-place l = l.path ≡ names_at l.items (take l.place-index l.places)
