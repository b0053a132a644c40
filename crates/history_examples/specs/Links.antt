-- Single moves with their changes written out: behind each the links are right.
use Rattle.std.specs.Prelude.{Contains, None, Some, [], map, ℕ, ◌+◌, ◌∷◌, ◌≡◌, ◌≢◌}
use Rattle.heat_value.specs.Data.{Members}
use Rattle.heat_plan.specs.declared.item.Policy.TheVariants.{Retain}
use Rattle.heat_plan.specs.declared.phase.Act.TheVariants.{Delete, Init}
use Rattle.heat_plan.specs.declared.phase.Status.TheVariants.{InProgress}
use Rattle.row_table.specs.Rows.{row_at}
use Rattle.row_table.specs.declared.row.Row.{Row}
use Rattle.mail_table.specs.Mails.{job_at}
use Rattle.mail_table.specs.declared.mail.Job.{Job}
use Rattle.mail_table.specs.declared.mail.Letter.{Letter}
use Rattle.mail_table.specs.declared.mail.Stage.TheVariants.{Asking, Taken}
use Rattle.core_state.specs.Changes.{applied}
use Rattle.core_state.specs.Reads.{IsDone}
use Rattle.core_state.specs.State.{StateData}
use Rattle.core_state.specs.declared.change.Change.TheVariants.{Drop, EndJob, PutJob, PutRow, Send}
use Rattle.type_catalog.specs.declared.effect.Effect.{Effect}
use Rattle.step_relation.specs.Begins.{Begins, MustGo, moved_job, next_row, past_row}
use Rattle.step_relation.specs.Cleanups.{Cleans, IsKept, IsStuck}
use Rattle.step_relation.specs.Finishes.{Finishes, finished_changes, graph_then}
use Rattle.step_relation.specs.Freshness.{IsMeant}
use Rattle.step_relation.specs.Inputs.{AllDone}
use Rattle.step_relation.specs.Nexts.{IsLowest, Works}
use Rattle.step_relation.specs.Takes.{HasNoHolder, IsHolder, Releases, Takes, taken_job}
use Rattle.step_relation.specs.Writes.{draw_letters, job_of, lock, mark_complete, unlock, with_stage}
use Rattle.step_relation.specs.Linked.{Links}
use Rattle.step_relation.specs.Sound.{Standing}
use Rattle.core_state.specs.declared.change.Change.TheVariants as change_to

-- a letter is taken whose row a stopped engine's job has: that job ends
abbrev pub StealIsLinked : Type 0
StealIsLinked = (s : StateData) (e f : ℕ) (k : Takes s e) (j : Job) → Standing s → IsHolder s.jobs k.meant.target f j
    → ¬ Contains s.live f
    → Links (applied (lock k.meant.fresh.row e (Drop k.letter.no ∷ EndJob f ∷ PutJob (taken_job s e k) ∷ [])) s)

-- a letter is taken by a live engine without a job: the row is locked, and the job begins
abbrev pub TakenIsLinked : Type 0
TakenIsLinked = (s : StateData) (e : ℕ) (l : Letter) (m : IsMeant s l) → Standing s
    → Contains s.live e
    → job_at s.jobs e ≡ None → IsLowest s.letters l → ¬ IsDone m.fresh.graph l.node → HasNoHolder s.jobs m.target
    → Links (applied (lock m.fresh.row e (Drop l.no ∷ PutJob (job_of e l m.target Taken) ∷ [])) s)

-- a row that can't be gone on with is replaced: it names the new row, and no engine has it
abbrev pub ReplacementIsLinked : Type 0
ReplacementIsLinked = (s : StateData) (e : ℕ) (k : Begins s e) (props : Members) (effect : Effect) → Standing s
    → k.row.act ≢ Init → MustGo k.row k.item k.stack.trav props effect
    → Links (applied (change_to.Numbers (past_row s.next)
    ∷ PutRow (next_row s e k props)
    ∷ PutRow (record k.row { replaced_by = Some s.next.row; engine = None; key = k.row.key + 1 })
    ∷ PutJob (moved_job s k.job) ∷ []) s)

-- a job that is overrun is released
abbrev pub ReleaseIsLinked : Type 0
ReleaseIsLinked = (s : StateData) (e : ℕ) (j : Job) → Standing s → Works s e j Taken → (k : Releases s e j)
    → Links (applied (draw_letters s.next k.letters (unlock k.row (EndJob e ∷ map Send k.letters))) s)

-- a row is to be deleted: it goes on to name the rows before and behind it
abbrev pub LeavingIsLinked : Type 0
LeavingIsLinked = (s : StateData) (e : ℕ) (k : Cleans s e) (r : Row) → Standing s → row_at s.rows k.job.row ≡ Some r
    → ¬ IsKept s k.stack r → r.act ≢ Init → ¬ IsStuck r k.stack.trav → r.policy ≢ Retain
    → Links (applied (PutRow (record r { act = Delete; status = InProgress; trav = k.stack.trav })
    ∷ PutJob (with_stage Asking k.job) ∷ []) s)

-- a delete whose nodes are all done is marked complete: its stack goes, and no row of it stands
abbrev pub DeleteIsLinked : Type 0
DeleteIsLinked = (s : StateData) (e : ℕ) (k : Finishes s e) → Standing s → k.fresh.stack.act ≡ Delete
    → AllDone (graph_then s e k) → k.fresh.stack.status ≡ InProgress
    → Links (applied (finished_changes s e k (mark_complete k.fresh.stack)) s)
