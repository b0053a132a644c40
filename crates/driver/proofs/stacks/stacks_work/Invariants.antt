use Rattle.std.proofs.Common.{map, take, ◌*◌, ◌^◌, ◌≤◌}
use Rattle.core_state.specs.State.{stack_key}
use Rattle.driver.proofs.Tables.{StacksSeen}
use Rattle.driver.proofs.stacks.stacks_work.Given as goal

abbrev pub invariant-loop-stack : goal.invariant-loop-stack
invariant-loop-stack l =
    StacksSeen l.s.state (map stack_key (take l.stack-index l.stack-items)) l.sum × (l.sum ≤ 2 ^ 70 * l.stack-index)
