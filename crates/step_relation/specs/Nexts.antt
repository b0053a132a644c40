-- Which step of an engine is next.
use Rattle.std.specs.Prelude.{Contains, List, None, Some, ℕ, ◌≡◌, ◌≤◌}
use Rattle.mail_table.specs.Mails.{job_at, letter_at}
use Rattle.mail_table.specs.declared.mail.Job.{Job}
use Rattle.mail_table.specs.declared.mail.Letter.{Letter}
use Rattle.mail_table.specs.declared.mail.Stage.{Stage}
use Rattle.core_state.specs.State.{StateData}
use Rattle.step_relation.specs.Freshness.{IsStopped}

-- the letter waits, and none with a lower number does
pub record IsLowest (letters : List Letter) (l : Letter) : Type 0 where
  pub waits : letter_at letters l.no ≡ Some l
  pub lowest : (n : ℕ) (other : Letter) → letter_at letters n ≡ Some other → l.no ≤ n

-- that of its job
pub record Works (s : StateData) (e : ℕ) (j : Job) (stage : Stage) : Type 0 where
  pub live : Contains s.live e
  pub its : job_at s.jobs e ≡ Some j
  pub stage_is : j.stage ≡ stage

-- without a job, the taking of the lowest letter
pub record TakesNext (s : StateData) (e : ℕ) (l : Letter) : Type 0 where
  pub live : Contains s.live e
  pub jobless : job_at s.jobs e ≡ None
  pub first : IsLowest s.letters l

-- no letter waits
abbrev pub NoLetters : StateData → Type 0
NoLetters s = (n : ℕ) → letter_at s.letters n ≡ None

-- a stopped engine with a job
pub record HasLeft (s : StateData) (f : ℕ) (j : Job) : Type 0 where
  pub stopped : ¬ Contains s.live f
  pub its : job_at s.jobs f ≡ Some j

-- without a job and a letter, the take-over of the lowest stopped engine's job
pub record TakesOver (s : StateData) (e f : ℕ) (j : Job) : Type 0 where
  pub live : Contains s.live e
  pub jobless : job_at s.jobs e ≡ None
  pub silent : NoLetters s
  pub left : HasLeft s f j
  pub lowest : (g : ℕ) (k : Job) → HasLeft s g k → f ≤ g

-- none of these: it has nothing to do
pub record IsIdle (s : StateData) (e : ℕ) : Type 0 where
  pub live : Contains s.live e
  pub jobless : job_at s.jobs e ≡ None
  pub silent : NoLetters s
  pub none_left : (f : ℕ) (j : Job) → ¬ HasLeft s f j

-- the engine was stopped
abbrev pub IsLost : StateData → ℕ → Type 0
IsLost s e = IsStopped s e
