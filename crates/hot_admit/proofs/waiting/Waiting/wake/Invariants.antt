use Rattle.std.proofs.Common.{◌≡◌, length}
use Rattle.hot_admit.proofs.Waits.{ArePlaced}
use Rattle.hot_admit.proofs.waiting.Waiting.wake.Given as goal

-- the lists stay, and all that are due are placed
abbrev pub invariant-loop-due : goal.invariant-loop-due
invariant-loop-due l =
    (l.self-inside.1.0 ≡ l.initial.self-inside.1.0)
    × ArePlaced (length l.self-inside.1.0.items) l.self-inside.1.1.0.keys
