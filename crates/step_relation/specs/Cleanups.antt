-- The begin of a clean-up node.
use Rattle.std.specs.Prelude.{Contains, List, [], ℕ, ◌++◌, ◌∷◌, ◌≡◌}
use Rattle.heat_plan.specs.Plans.{names_of}
use Rattle.heat_plan.specs.declared.phase.Act.TheVariants.{Delete}
use Rattle.heat_plan.specs.declared.phase.Status.TheVariants.{Failed}
use Rattle.traversal_graph.specs.declared.shape.Node.TheVariants.{C}
use Rattle.row_table.specs.declared.row.Row.{Row}
use Rattle.mail_table.specs.declared.mail.Job.{Job}
use Rattle.mail_table.specs.declared.mail.Stage.TheVariants.{Ending, Taken}
use Rattle.core_state.specs.State.{StateData}
use Rattle.core_state.specs.declared.change.Change.{Change}
use Rattle.core_state.specs.declared.change.Change.TheVariants.{DropRow, PutJob, Release}
use Rattle.core_state.specs.declared.entry.Actor.TheVariants.{Engine}
use Rattle.core_state.specs.declared.entry.Entry.{Entry}
use Rattle.core_state.specs.declared.entry.MailWrite.TheVariants.{Held}
use Rattle.core_state.specs.declared.entry.RowWrite.TheVariants.{Purge}
use Rattle.core_state.specs.declared.graph.Graph.{Graph}
use Rattle.core_state.specs.declared.stack.Stack.{Stack}
use Rattle.step_relation.specs.Freshness.{Names, plan_of}
use Rattle.step_relation.specs.Nexts.{Works}
use Rattle.step_relation.specs.Rows.{token_of}
use Rattle.step_relation.specs.Targets.{IsCurrentOf}
use Rattle.step_relation.specs.Writes.{entry_of, mail_entry, rows_entry, with_stage}
use Rattle.core_state.specs.declared.entry.What.TheVariants as what

-- a job at Taken at a clean-up node, whose row may be gone
pub record Cleans (s : StateData) (e : ℕ) : Type 0 where
  pub job : Job
  pub stack : Stack
  pub graph : Graph
  pub number : ℕ
  pub works : Works s e job Taken
  pub names : Names s job.letter stack graph (C number)

-- the row is the current one of its name, and the plan has the name
pub record IsKept (s : StateData) (st : Stack) (r : Row) : Type 0 where
  pub current : IsCurrentOf s.rows r.stack r.name r
  pub planned : Contains (names_of (plan_of st.plan).items) r.name

-- a delete of the row failed in this traversal
pub record IsStuck (r : Row) (trav : ℕ) : Type 0 where
  pub act : r.act ≡ Delete
  pub status : r.status ≡ Failed
  pub newest : r.trav ≡ trav

-- the row goes from the table
abbrev pub purged_changes : Job → Row → List Change
purged_changes j r = DropRow r.no ∷ PutJob (with_stage Ending j) ∷ []

-- what is told of it: that the row is gone, and then the job
abbrev pub purged_entries : ℕ → Job → Row → List Entry
purged_entries e j r =
    rows_entry (Engine e) (Purge r.no ∷ []) ++ mail_entry (Engine e) (Held (with_stage Ending j) ∷ [])

-- the engine gives up what the row asked for, and the row goes
abbrev pub retained_changes : Job → Row → List Change
retained_changes j r = Release (token_of r) ∷ purged_changes j r

-- what is told of it: the token that is given up, and then as of any row that goes
abbrev pub retained_entries : ℕ → Job → Row → List Entry
retained_entries e j r = entry_of (Engine e) (what.Release (token_of r)) ∷ purged_entries e j r
