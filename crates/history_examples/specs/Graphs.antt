-- Single moves with their changes written out: behind each the graphs fit their plans and rows.
use Rattle.std.specs.Prelude.{List, Some, [], cond, map, ℕ, ◌++◌, ◌==◌, ◌||◌, ◌∷◌, ◌≡◌, ◌≢◌}
use Rattle.heat_value.specs.Data.{Members}
use Rattle.heat_plan.specs.declared.item.Policy.TheVariants.{Retain}
use Rattle.heat_plan.specs.declared.phase.Act.TheVariants.{Init}
use Rattle.row_table.specs.Rows.{row_at}
use Rattle.row_table.specs.declared.row.Row.{Row}
use Rattle.sync_points.specs.declared.point.Point.{Point}
use Rattle.mail_table.specs.declared.mail.Job.{Job}
use Rattle.mail_table.specs.declared.mail.Letter.{Letter}
use Rattle.mail_table.specs.declared.mail.Stage.TheVariants.{Taken}
use Rattle.core_state.specs.Changes.{applied}
use Rattle.core_state.specs.State.{StateData}
use Rattle.core_state.specs.declared.change.Change.TheVariants.{EndJob, PutJob, PutPoint, PutRow, Send}
use Rattle.type_catalog.specs.declared.effect.Effect.{Effect}
use Rattle.step_relation.specs.Begins.{Begins, MustGo, moved_job, past_row}
use Rattle.step_relation.specs.Cleanups.{Cleans, IsKept, IsStuck, retained_changes}
use Rattle.step_relation.specs.Finishes.{Finishes, Settles, given_input, ready_letters}
use Rattle.step_relation.specs.Freshness.{IsOverrun}
use Rattle.step_relation.specs.Given.{Prepared}
use Rattle.step_relation.specs.Inputs.{gathered, is_among, point_at}
use Rattle.step_relation.specs.Nexts.{Works}
use Rattle.step_relation.specs.Resends.{Resends}
use Rattle.step_relation.specs.Rows.{replaced, replacement, unlocked}
use Rattle.step_relation.specs.Runs.{IsTied, Judges}
use Rattle.step_relation.specs.Writes.{draw_letters, unlock}
use Rattle.step_relation.specs.Sound.{Standing}
use Rattle.graph_laws.specs.graphs.Laws.{GraphsFit}
use Rattle.core_state.specs.declared.change.Change.TheVariants as change_to

-- a row that can't be gone on with is replaced, for the stack's traversal
abbrev pub ReplacementFits : Type 0
ReplacementFits = (judges : Judges) (s : StateData) (e : ℕ) (k : Begins s e) (props : Members) (effect : Effect)
    → Standing s
    → k.row.act ≢ Init → MustGo k.row k.item k.stack.trav props effect
    → IsTied judges s e (Prepared props effect)
    → GraphsFit (applied (change_to.Numbers (past_row s.next)
    ∷ PutRow (replacement s.next.row e k.stack.trav k.stack.name k.item props k.required k.row)
    ∷ PutRow (replaced s.next.row k.row) ∷ PutJob (moved_job s k.job) ∷ []) s)

-- the point of a node then: the finished one is done, and one behind it has its input, once
abbrev pub point_then : (s : StateData) (e : ℕ) → Finishes s e → ℕ → Point
point_then s e k n = record {
  stack = k.fresh.graph.stack;
  node = n;
  inputs = cond (is_among n k.succs)
      (gathered (given_input s e k) (point_at k.fresh.graph n).inputs)
      (point_at k.fresh.graph n).inputs;
  done = (n == k.job.letter.node) || (point_at k.fresh.graph n).done;
}

-- a node is finished: it is done, and each node behind it gets its input
abbrev pub FinishFits : Type 0
FinishFits = (s : StateData) (e : ℕ) (k : Finishes s e) → Standing s → ¬ Settles s e k
    → GraphsFit (applied (draw_letters s.next (ready_letters s e k) (unlock k.fresh.row (EndJob e
    ∷ (map PutPoint (map (point_then s e k) (k.job.letter.node ∷ k.succs))
    ++ (map Send (ready_letters s e k) ++ []))))) s)

-- a job that is overrun makes no row: it ends, and its row is free again
abbrev pub OverrunFits : Type 0
OverrunFits = (s : StateData) (e : ℕ) (j : Job) (r : Row) (letters : List Letter) → Standing s → Works s e j Taken
    → IsOverrun s j → row_at s.rows j.row ≡ Some r → Resends s j.letter.stack j.row letters
    → GraphsFit (applied (draw_letters s.next letters
    (PutRow (unlocked r) ∷ EndJob e ∷ map Send letters)) s)

-- a row that no name of the plan has any more is given up
abbrev pub GivenUpFits : Type 0
GivenUpFits = (s : StateData) (e : ℕ) (k : Cleans s e) (r : Row) → Standing s → row_at s.rows k.job.row ≡ Some r
    → ¬ IsKept s k.stack r → r.act ≢ Init → ¬ IsStuck r k.stack.trav → r.policy ≡ Retain
    → GraphsFit (applied (retained_changes k.job r) s)
