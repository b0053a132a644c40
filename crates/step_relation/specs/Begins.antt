-- The begin of an update node.
use Rattle.std.specs.Prelude.{List, Some, [], slice_get, ℕ, ◌++◌, ◌+◌, ◌∷◌, ◌≡◌, ◌≢◌}
use Rattle.heat_value.specs.Data.{Members}
use Rattle.heat_plan.specs.declared.item.Item.{Item}
use Rattle.heat_plan.specs.declared.phase.Act.TheVariants.{Delete}
use Rattle.heat_plan.specs.declared.phase.Status.TheVariants.{Complete, Failed, InProgress}
use Rattle.dep_graph.specs.Lists.{ListsAll}
use Rattle.traversal_graph.specs.declared.shape.Node.TheVariants.{U}
use Rattle.row_table.specs.Rows.{row_at}
use Rattle.row_table.specs.declared.row.Row.{Row}
use Rattle.sync_points.specs.declared.point.Point.{Point}
use Rattle.mail_table.specs.declared.mail.Job.{Job}
use Rattle.mail_table.specs.declared.mail.Stage.{Stage}
use Rattle.mail_table.specs.declared.mail.Stage.TheVariants.{Asking, Taken}
use Rattle.core_state.specs.Reads.{item_at}
use Rattle.core_state.specs.State.{StateData}
use Rattle.core_state.specs.declared.change.Change.{Change}
use Rattle.core_state.specs.declared.change.Change.TheVariants.{EndJob, PutJob, PutRow}
use Rattle.core_state.specs.declared.entry.Actor.TheVariants.{Engine}
use Rattle.core_state.specs.declared.entry.Entry.{Entry}
use Rattle.core_state.specs.declared.entry.MailWrite.TheVariants.{Ended, Held}
use Rattle.core_state.specs.declared.entry.RowWrite.TheVariants.{Set}
use Rattle.core_state.specs.declared.graph.Graph.{Graph}
use Rattle.core_state.specs.declared.numbers.Numbers.{Numbers}
use Rattle.core_state.specs.declared.stack.Stack.{Stack}
use Rattle.type_catalog.specs.declared.effect.Effect.{Effect}
use Rattle.type_catalog.specs.declared.effect.Effect.TheVariants.{InPlace}
use Rattle.step_relation.specs.Freshness.{Names, plan_of}
use Rattle.step_relation.specs.Inputs.{IsRequired}
use Rattle.step_relation.specs.Nexts.{Works}
use Rattle.step_relation.specs.Rows.{replaced, replacement, unlocked}
use Rattle.step_relation.specs.Writes.{mail_entry, rows_entry, with_stage}
use Rattle.core_state.specs.declared.change.Change.TheVariants as change_to

-- a job at Taken at an update node, with the item of the node's name, its row, and the node's point
pub record Begins (s : StateData) (e : ℕ) : Type 0 where
  pub job : Job
  pub stack : Stack
  pub graph : Graph
  pub name : List ℕ
  pub chosen : ℕ
  pub item : Item
  pub row : Row
  pub point : Point
  pub required : List ℕ
  pub works : Works s e job Taken
  pub names : Names s job.letter stack graph (U name chosen)
  pub asked : item_at (plan_of stack.plan).items name ≡ Some item
  pub found : row_at s.rows job.row ≡ Some row
  pub kept : row.act ≢ Delete
  pub its_point : slice_get graph.points job.letter.node ≡ Some point
  -- the rows of the inputs that come from update nodes, rising
  pub requires_are : ListsAll (IsRequired point.inputs) required

-- the row has these properties under the item's kind
pub record IsSame (r : Row) (item : Item) (props : Members) : Type 0 where
  pub kind : r.kind.name ≡ item.kind.name
  pub props_are : r.props ≡ props

-- the properties differ, and may be changed in place
pub record IsSoft (r : Row) (item : Item) (props : Members) (effect : Effect) : Type 0 where
  pub kind : r.kind.name ≡ item.kind.name
  pub differs : r.props ≢ props
  pub in_place : effect ≡ InPlace

-- a row that was begun can't be gone on with: another row takes its place
pub data MustGo (r : Row) (item : Item) (trav : ℕ) (props : Members) (effect : Effect) : Type 0 where
  changed : r.status ≡ Complete → ¬ IsSame r item props → ¬ IsSoft r item props effect → MustGo r item trav props effect
  overtaken : r.status ≡ InProgress → r.trav ≢ trav → MustGo r item trav props effect
  given_up : r.status ≡ Failed → r.trav ≢ trav → MustGo r item trav props effect

-- the row is written, and the job goes on
abbrev pub begun_changes : Job → Stage → Row → List Change
begun_changes j stage r = PutRow r ∷ PutJob (with_stage stage j) ∷ []

-- what is told of it: the row, and then the job
abbrev pub begun_entries : ℕ → Job → Stage → Row → List Entry
begun_entries e j stage r =
    rows_entry (Engine e) (Set r ∷ []) ++ mail_entry (Engine e) (Held (with_stage stage j) ∷ [])

-- the job goes on with its row as it is
abbrev pub onward_changes : Job → Stage → List Change
onward_changes j stage = PutJob (with_stage stage j) ∷ []

-- what is told of it: the job alone
abbrev pub onward_entries : ℕ → Job → Stage → List Entry
onward_entries e j stage = mail_entry (Engine e) (Held (with_stage stage j) ∷ [])

-- the row is unlocked, and the job ends
abbrev pub left_changes : ℕ → Row → List Change
left_changes e r = PutRow (unlocked r) ∷ EndJob e ∷ []

-- what is told of it: the row, and then the job's end
abbrev pub left_entries : ℕ → Row → List Entry
left_entries e r = rows_entry (Engine e) (Set (unlocked r) ∷ []) ++ mail_entry (Engine e) (Ended e ∷ [])

-- the row that takes the other's place, and the job that moves to it
abbrev pub next_row : (s : StateData) (e : ℕ) → Begins s e → Members → Row
next_row s e k props = replacement s.next.row e k.stack.trav k.stack.name k.item props k.required k.row

-- the job at the new row, for which it asks next
abbrev pub moved_job : StateData → Job → Job
moved_job s j = record j { row = s.next.row; stage = Asking }

-- the next numbers behind one row
abbrev pub past_row : Numbers → Numbers
past_row next = record next { row = next.row + 1 }

-- the number is drawn, the new row and the one that it replaces are written, and the job goes on with the new
abbrev pub replaced_changes : (s : StateData) (e : ℕ) → Begins s e → Members → List Change
replaced_changes s e k props =
    change_to.Numbers (past_row s.next) ∷ PutRow (next_row s e k props) ∷ PutRow (replaced s.next.row k.row)
    ∷ PutJob (moved_job s k.job) ∷ []

-- what is told of it: both rows, and then the job
abbrev pub replaced_entries : (s : StateData) (e : ℕ) → Begins s e → Members → List Entry
replaced_entries s e k props =
    rows_entry (Engine e) (Set (next_row s e k props) ∷ Set (replaced s.next.row k.row) ∷ [])
    ++ mail_entry (Engine e) (Held (moved_job s k.job) ∷ [])
