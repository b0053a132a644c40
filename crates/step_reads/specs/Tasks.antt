-- What an engine's next work is.
use Rattle.std.specs.Prelude.{Contains, List, None, ℕ, ◌≡◌, ◌≤◌}
use Rattle.mail_table.specs.Mails.{letter_at}
use Rattle.mail_table.specs.declared.mail.Job.{Job}
use Rattle.mail_table.specs.declared.mail.Letter.{Letter}
use Rattle.core_state.specs.State.{StateData}
use Rattle.step_relation.specs.Nexts.{HasLeft, IsIdle, TakesNext, TakesOver, Works}
use Rattle.step_reads.specs.declared.next.Task.{Task}
use Rattle.step_reads.specs.declared.next.Task.TheVariants as task

-- each task by its word
abbrev pub IsTask : StateData → ℕ → Task → Type 0
IsTask s e (task.Work j) = Works s e j.now j.now.stage
IsTask s e (task.Take l) = TakesNext s e l.now
IsTask s e (task.TakeOver j) = TakesOver s e j.now.engine j.now
IsTask s e task.Idle = IsIdle s e
IsTask s e task.Lost = ¬ Contains s.live e

-- no letter waits
abbrev pub HasNoLetter : List Letter → Type 0
HasNoLetter letters = (n : ℕ) → letter_at letters n ≡ None

-- a stopped engine's job, of the lowest that has one
pub record IsLowestLeft (s : StateData) (j : Job) : Type 0 where
  pub left : HasLeft s j.engine j
  pub lowest : (g : ℕ) (k : Job) → HasLeft s g k → j.engine ≤ g

-- no stopped engine has a job
abbrev pub HasNoneLeft : StateData → Type 0
HasNoneLeft s = (f : ℕ) (j : Job) → ¬ HasLeft s f j
