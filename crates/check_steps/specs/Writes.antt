-- What is written of the row that was found.
use Rattle.std.specs.Prelude.{List, [], ℕ, ◌++◌, ◌∷◌}
use Rattle.heat_value.specs.Data.{Members}
use Rattle.row_table.specs.declared.row.Row.{Row}
use Rattle.core_state.specs.State.{StateData}
use Rattle.core_state.specs.declared.change.Change.{Change}
use Rattle.core_state.specs.declared.change.Change.TheVariants.{PutJob, PutRow}
use Rattle.core_state.specs.declared.entry.Actor.TheVariants.{Engine}
use Rattle.core_state.specs.declared.entry.Entry.{Entry}
use Rattle.core_state.specs.declared.entry.MailWrite.TheVariants.{Held}
use Rattle.core_state.specs.declared.entry.RowWrite.TheVariants.{Set}
use Rattle.step_relation.specs.Begins.{moved_job, past_row}
use Rattle.step_relation.specs.Rows.{created_row, replaced, replacement, same_row, updated_row}
use Rattle.step_relation.specs.Writes.{mail_entry, rows_entry}
use Rattle.check_steps.specs.declared.begin_found.Found.{Found}
use Rattle.core_state.specs.declared.change.Change.TheVariants as change_to

-- to be created with these properties
abbrev pub started : Found → Members → Row
started it props = created_row it.row.now it.item.now it.stack.now.trav props it.required

-- kept as it is
abbrev pub kept : Found → Row
kept it = same_row it.row.now it.item.now it.stack.now.trav it.required

-- to be updated in place to these properties
abbrev pub updated : Found → Members → Row
updated it props = updated_row it.row.now it.item.now it.stack.now.trav props it.required

-- the row that takes its place
abbrev pub successor : StateData → ℕ → Found → Members → Row
successor s e it props =
    replacement s.next.row e it.stack.now.trav it.stack.now.name it.item.now props it.required it.row.now

abbrev pub succeeded_changes : StateData → ℕ → Found → Members → List Change
succeeded_changes s e it props =
    change_to.Numbers (past_row s.next) ∷ PutRow (successor s e it props) ∷ PutRow (replaced s.next.row it.row.now)
    ∷ PutJob (moved_job s it.job.now) ∷ []

abbrev pub succeeded_entries : StateData → ℕ → Found → Members → List Entry
succeeded_entries s e it props =
    rows_entry (Engine e) (Set (successor s e it props) ∷ Set (replaced s.next.row it.row.now) ∷ [])
    ++ mail_entry (Engine e) (Held (moved_job s it.job.now) ∷ [])
