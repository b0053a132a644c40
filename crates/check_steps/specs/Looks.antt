-- What an engine's next step is, and what its preparation reads.
use Rattle.std.specs.Prelude.{Contains, Some, ℕ, ◌≡◌}
use Rattle.heat_plan.specs.Plans.{PlanData}
use Rattle.mail_table.specs.declared.mail.Job.{Job}
use Rattle.core_state.specs.State.{StateData}
use Rattle.step_relation.specs.Nexts.{IsIdle, IsLost}
use Rattle.check_steps.specs.AtUpdate.{AtUpdate}
use Rattle.check_steps.specs.Parts.{read_of}
use Rattle.check_steps.specs.declared.looks.BeginWork.{BeginWork}
use Rattle.check_steps.specs.declared.looks.Look.TheVariants as look
use Rattle.check_steps.specs.declared.looks.Look.{Look}
use Rattle.check_steps.specs.declared.looks.Work.TheVariants as work
use Rattle.check_steps.specs.declared.looks.Work.{Work}

-- the engine is live and has something to do
pub record HasNext (s : StateData) (e : ℕ) : Type 0 where
  pub live : Contains s.live e
  pub some : ¬ IsIdle s e

-- its next step is the begin of a job at an update node, which reads this
pub record IsBegin (s : StateData) (e : ℕ) (w : BeginWork) : Type 0 where
  pub job : Job
  pub at : AtUpdate s e job
  pub plan : PlanData
  pub its_plan : at.stack.plan ≡ Some plan
  pub reads : w ≡ read_of plan at.item at.point at.row

-- its next step is another
pub record IsPlain (s : StateData) (e : ℕ) : Type 0 where
  pub next : HasNext s e
  pub other : (job : Job) → ¬ AtUpdate s e job

-- this is the engine's next step
abbrev pub IsWork : StateData → ℕ → Work → Type 0
IsWork s e (work.Begin w) = IsBegin s e w
IsWork s e work.Plain = IsPlain s e

-- each look by its word
abbrev pub IsLook : StateData → ℕ → Look → Type 0
IsLook s e look.Idle = IsIdle s e
IsLook s e look.Lost = IsLost s e
IsLook s e (look.Work w) = IsWork s e w

-- the engine has a next step, and it isn't the one that was looked at
pub record IsOther (s : StateData) (e : ℕ) (w : Work) : Type 0 where
  pub next : HasNext s e
  pub other : ¬ IsWork s e w
