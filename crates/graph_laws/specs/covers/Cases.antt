-- Single moves with their changes written out: behind each the open nodes are covered.
use Rattle.std.specs.Prelude.{List, Option, [], map, ℕ, ◌++◌, ◌∷◌}
use Rattle.heat_plan.specs.declared.calls.Answered.{Answered}
use Rattle.heat_plan.specs.declared.calls.Request.{Request}
use Rattle.mail_table.specs.declared.mail.Job.{Job}
use Rattle.mail_table.specs.declared.mail.Letter.{Letter}
use Rattle.mail_table.specs.declared.mail.Stage.TheVariants.{Asking, Taken}
use Rattle.core_state.specs.Changes.{applied}
use Rattle.core_state.specs.State.{StateData}
use Rattle.core_state.specs.declared.change.Change.TheVariants.{Drop, EndJob, PutJob, PutPoint, Send}
use Rattle.core_state.specs.declared.entry.Why.{Why}
use Rattle.core_state.specs.declared.stack.Stack.{Stack}
use Rattle.step_relation.specs.Asks.{Asks, Calls, Falls, Refuses, failed_changes}
use Rattle.step_relation.specs.Finishes.{Finishes, Settles, given_input, ready_letters}
use Rattle.step_relation.specs.Inputs.{passed_points}
use Rattle.step_relation.specs.Nexts.{Works}
use Rattle.step_relation.specs.Takes.{HasNoHolder, Relays, Releases, Takes, relayed_letter, released_changes, taken_job}
use Rattle.step_relation.specs.Writes.{draw_letters, lock, unlock}
use Rattle.step_relation.specs.Sound.{Standing}
use Rattle.step_relation.specs.Stir.{Covered}

-- a letter is taken: it goes, and a job stands in its place
abbrev pub TakenIsCovered : Type 0
TakenIsCovered = (s : StateData) (e : ℕ) (k : Takes s e) → Standing s → HasNoHolder s.jobs k.meant.target
    → Covered (applied (lock k.meant.fresh.row e (Drop k.letter.no ∷ PutJob (taken_job s e k) ∷ [])) s)

-- a job that is overrun is released, and whom its row kept waiting is told
abbrev pub ReleaseTells : Type 0
ReleaseTells = (s : StateData) (e : ℕ) (j : Job) → Standing s → Works s e j Taken → (k : Releases s e j)
    → Covered (applied (released_changes s e k.row k.letters) s)

-- a stopped engine's job ends, and its node gets a letter
abbrev pub TakeOverTells : Type 0
TakeOverTells = (s : StateData) (e f : ℕ) (k : Relays s e f) → Standing s
    → Covered (applied (released_changes s f k.fresh.row (relayed_letter s e f k ∷ [])) s)

-- a job fails: whom its row kept waiting is told, or its stack is marked
abbrev pub FailureTells : Type 0
FailureTells = (s : StateData) (e : ℕ) (k : Calls s e Asking) (asked : Request) (given : Answered) (reason : Why)
    (letters : List Letter) (failed : Option Stack) → Standing s → Asks k.row asked
    → Refuses k.row.act asked given reason
    → Falls s k.job letters failed
    → Covered (applied (failed_changes s e k.row letters failed) s)

-- a job is finished: each node that is ready then gets a letter
abbrev pub FinishTells : Type 0
FinishTells = (s : StateData) (e : ℕ) (k : Finishes s e) → Standing s → ¬ Settles s e k
    → Covered (applied (draw_letters s.next (ready_letters s e k) (unlock k.fresh.row (EndJob e
    ∷ (map PutPoint (passed_points k.fresh.graph k.job.letter.node (given_input s e k) k.succs)
    ++ (map Send (ready_letters s e k) ++ []))))) s)
