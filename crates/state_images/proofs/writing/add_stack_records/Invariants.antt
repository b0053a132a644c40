use Rattle.std.proofs.Common.{◌≡◌, ◌++◌, map, take}
use Rattle.core_state.specs.declared.change.Change.TheVariants.{PutStack}
use Rattle.state_images.proofs.writing.add_stack_records.Given as goal

abbrev pub invariant-loop-stack : goal.invariant-loop-stack
invariant-loop-stack l = l.changes ≡ l.fn.changes ++ map PutStack (take l.stack-index l.stacks)
