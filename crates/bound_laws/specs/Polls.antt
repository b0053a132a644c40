-- What a cloud's answers make of the polls that are left, and what a turn makes of them.
use Rattle.std.specs.Prelude.{List, Some, suc, ℕ, ◌≡◌, ◌≢◌, ◌≤◌}
use Rattle.heat_value.specs.Data.{Members}
use Rattle.heat_plan.specs.declared.calls.Answered.{Answered}
use Rattle.heat_plan.specs.declared.calls.Request.{Request}
use Rattle.heat_plan.specs.declared.facts.Facts.{Facts}
use Rattle.heat_plan.specs.declared.token.Token.{Token}
use Rattle.provider.specs.Calls.{HasBegun, HasFailed, IsBroken, IsGone, IsReady, IsRefused, Lingers, Waits}
use Rattle.provider.specs.Cloud.{Cloud}
use Rattle.row_table.specs.Rows.{row_at}
use Rattle.row_table.specs.declared.row.Row.{Row}
use Rattle.mail_table.specs.Mails.{job_at}
use Rattle.mail_table.specs.declared.mail.Job.{Job}
use Rattle.core_state.specs.State.{StateData}
use Rattle.step_relation.specs.Given.{Answer, Given}
use Rattle.step_relation.specs.Rows.{token_of}
use Rattle.heat_plan.specs.declared.calls.Answered.TheVariants as answer

-- NotYet takes one of the asked token's, and no other token's have changed
pub record Spends (token : Token) (given : Answered) (old new : Cloud) : Type 0 where
  pub waits : given ≡ answer.NotYet → suc (new.left token) ≡ old.left token
  pub others : (t : Token) → t ≢ token → new.left t ≡ old.left t

-- each answer of a cloud to a call does so
pub record CallsSpend (old new : Cloud) (token : Token) : Type 0 where
  pub begun : (request : Request) → HasBegun token request old new → Spends token answer.Begun old new
  pub quota : (kind : List ℕ) (props : Members) → IsRefused token kind props old new → Spends token answer.Quota old new
  pub failed : (request : Request) → HasFailed token request old new → Spends token answer.Failed old new
  pub not_yet : Waits token old new → Spends token answer.NotYet old new
  pub ready : (facts : Facts) → IsReady token facts old new → Spends token (answer.Ready facts) old new
  pub broken : (code : List ℕ) → IsBroken token code old new → Spends token (answer.Broken code) old new
  pub gone : IsGone token old new → Spends token answer.Gone old new
  pub lingers : Lingers token old new → Spends token answer.NotYet old new

abbrev pub ProvidersSpend : Type 0
ProvidersSpend = (old new : Cloud) (token : Token) → CallsSpend old new token

-- the token of the row of the engine's job
pub record IsOwn (s : StateData) (e : ℕ) (t : Token) : Type 0 where
  pub job : Job
  pub row : Row
  pub its : job_at s.jobs e ≡ Some job
  pub found : row_at s.rows job.row ≡ Some row
  pub token : token_of row ≡ t

-- a turn's answer is one to the token of its job's row; without an answer no polls have changed
pub data Polled (s : StateData) (e : ℕ) (given : Given) (old new : Cloud) : Type 0 where
  unasked : ((a : Answered) → given ≢ Answer a) → ((t : Token) → new.left t ≡ old.left t) → Polled s e given old new
  asked : (token : Token) (a : Answered) → given ≡ Answer a → IsOwn s e token → Spends token a old new
      → Polled s e given old new

-- at most 64 polls are left for each token
abbrev pub AreFew : Cloud → Type 0
AreFew cloud = (t : Token) → cloud.left t ≤ 64
