use Rattle.std.proofs.Common.{◌≡◌, ◌≤◌, ◌+◌, length}
use Rattle.core_state.specs.Changes.{applied}
use Rattle.core_state.proofs.state.State.apply_all.Given as goal

abbrev pub invariant-loop-change : goal.invariant-loop-change
invariant-loop-change l =
    (applied l.change-iterator.rest.items l.self.state ≡ applied l.fn.changes l.fn.self.state)
    × (length l.change-iterator.rest.items ≤ l.self.spare)
    × (l.fn.self.spare + length l.change-iterator.rest.items ≤ l.self.spare + length l.fn.changes)
