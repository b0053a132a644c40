-- What the next step of an engine may be given.
use Rattle.std.specs.Prelude.{List, ℕ}
use Rattle.heat_value.specs.Data.{Members}
use Rattle.heat_value.specs.declared.path.Step.{Step}
use Rattle.heat_plan.specs.declared.calls.Answered.{Answered}
use Rattle.heat_plan.specs.declared.calls.Request.{Request}
use Rattle.heat_plan.specs.declared.facts.Facts.{Facts}
use Rattle.mail_table.specs.declared.mail.Job.{Job}
use Rattle.mail_table.specs.declared.mail.Letter.{Letter}
use Rattle.mail_table.specs.declared.mail.Stage.TheVariants.{Asking, Ending, Polling, Taken}
use Rattle.core_state.specs.State.{StateData}
use Rattle.type_catalog.specs.declared.effect.Effect.{Effect}
use Rattle.history_laws.specs.Asks.{Asks, Calls, Polls}
use Rattle.history_laws.specs.Begins.{Begins}
use Rattle.history_laws.specs.Cleanups.{Cleans}
use Rattle.history_laws.specs.Freshness.{IsOverrun}
use Rattle.history_laws.specs.Given.{Answer, Faulted, Given, Nothing, Prepared}
use Rattle.history_laws.specs.Nexts.{TakesNext, TakesOver, Works}
use Rattle.heat_plan.specs.declared.calls.Answered.TheVariants as answer
use Rattle.heat_plan.specs.declared.calls.Request.TheVariants as request

-- an answer that a provider gives to the request
pub data MayAnswer : Request → Answered → Type 0 where
  create_begun : (kind : List ℕ) (props : Members) → MayAnswer (request.Create kind props) answer.Begun
  create_quota : (kind : List ℕ) (props : Members) → MayAnswer (request.Create kind props) answer.Quota
  update_begun : (props : Members) → MayAnswer (request.Update props) answer.Begun
  delete_begun : MayAnswer request.Delete answer.Begun
  poll_waits : MayAnswer request.Poll answer.NotYet
  poll_ready : (facts : Facts) → MayAnswer request.Poll (answer.Ready facts)
  poll_broken : (code : List ℕ) → MayAnswer request.Poll (answer.Broken code)
  gone_waits : MayAnswer request.Gone answer.NotYet
  gone : MayAnswer request.Gone answer.Gone
  failed : (asked : Request) → MayAnswer asked answer.Failed

-- nothing, where nobody is asked; the properties or the fault of an item, at a begin; and an answer, at a call
pub data Suits (s : StateData) (e : ℕ) : Given → Type 0 where
  takes : (l : Letter) → TakesNext s e l → Suits s e Nothing
  takes_over : (f : ℕ) (j : Job) → TakesOver s e f j → Suits s e Nothing
  overruns : (j : Job) → Works s e j Taken → IsOverrun s j → Suits s e Nothing
  cleans : Cleans s e → Suits s e Nothing
  ends : (j : Job) → Works s e j Ending → Suits s e Nothing
  prepares : (k : Begins s e) (props : Members) (effect : Effect) → Suits s e (Prepared props effect)
  faults : (k : Begins s e) (code : List ℕ) (path : List Step) → Suits s e (Faulted code path)
  asks : (k : Calls s e Asking) (asked : Request) (given : Answered)
      → Asks k.row asked → MayAnswer asked given → Suits s e (Answer given)
  polls : (k : Calls s e Polling) (asked : Request) (given : Answered)
      → Polls k.row asked → MayAnswer asked given → Suits s e (Answer given)
