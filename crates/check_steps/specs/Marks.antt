-- What is changed where the item that was found has a fault, and its stack has no mark.
use Rattle.std.specs.Prelude.{List, Some, ℕ, ◌++◌}
use Rattle.heat_value.specs.declared.path.Step.{Step}
use Rattle.core_state.specs.declared.change.Change.{Change}
use Rattle.core_state.specs.declared.entry.Actor.TheVariants.{Engine}
use Rattle.core_state.specs.declared.entry.Entry.{Entry}
use Rattle.step_relation.specs.Asks.{fault_of}
use Rattle.step_relation.specs.Begins.{left_changes, left_entries}
use Rattle.step_relation.specs.Writes.{failed_mark, mark_failed}
use Rattle.check_steps.specs.declared.begin_found.Found.{Found}

-- the row is unlocked, the job ends, and the stack is marked
abbrev pub marked_changes : ℕ → Found → List Change
marked_changes e it = left_changes e it.row.now ++ mark_failed (Some it.stack.now)

abbrev pub marked_entries : ℕ → Found → List ℕ → List Step → List Entry
marked_entries e it code path =
    left_entries e it.row.now
    ++ failed_mark (Engine e) (Some it.stack.now) (fault_of it.item.now.name it.row.now.no code path)
