-- What the cloud answered to a request for a row.
use Rattle.std.specs.Prelude.{List, ℕ, ◌≡◌}
use Rattle.heat_value.specs.Data.{Members}
use Rattle.heat_plan.specs.declared.calls.Request.{Request}
use Rattle.heat_plan.specs.declared.facts.Facts.{Facts}
use Rattle.heat_plan.specs.declared.token.Token.{Token}
use Rattle.provider.specs.Changes.{IsAsBefore}
use Rattle.provider.specs.Cloud.{Cloud}
use Rattle.provider.specs.declared.answers.Answer.{Answer}
use Rattle.provider.specs.declared.answers.Answer.TheVariants as asked_for
use Rattle.provider.specs.declared.answers.Gone.{Gone}
use Rattle.provider.specs.declared.answers.Gone.TheVariants as looked
use Rattle.provider.specs.declared.answers.Poll.{Poll}
use Rattle.provider.specs.declared.answers.Poll.TheVariants as polled
use Rattle.book.specs.Scenes.{Told}
use Rattle.heat_plan.specs.declared.calls.Answered.TheVariants as answer
use Rattle.heat_plan.specs.declared.calls.Request.TheVariants as request

-- a create, an update or a delete; only a create is refused by a quota
pub record HasAsked (token : Token) (asked : Request) (old new : Cloud) (result : Answer) : Type 0 where
  pub begun : result ≡ asked_for.Begun → Told token asked answer.Begun old new
  pub quota : result ≡ asked_for.Quota → (kind : List ℕ) × (props : Members) × (asked ≡ request.Create kind props)
      × Told token asked answer.Quota old new
  pub failed : result ≡ asked_for.Failed → Told token asked answer.Failed old new
  pub memory : result ≡ asked_for.Memory → IsAsBefore old new

-- a poll
pub record HasPolled (token : Token) (old new : Cloud) (result : Poll) : Type 0 where
  pub not_yet : result ≡ polled.NotYet → Told token request.Poll answer.NotYet old new
  pub ready : (facts : Facts) → result ≡ polled.Ready facts → Told token request.Poll (answer.Ready facts) old new
  pub broken : (code : List ℕ) → result ≡ polled.Broken code → Told token request.Poll (answer.Broken code) old new
  pub failed : result ≡ polled.Failed → Told token request.Poll answer.Failed old new
  pub memory : result ≡ polled.Memory → IsAsBefore old new

-- the question whether a resource is gone
pub record HasLooked (token : Token) (old new : Cloud) (result : Gone) : Type 0 where
  pub gone : result ≡ looked.Gone → Told token request.Gone answer.Gone old new
  pub not_yet : result ≡ looked.NotYet → Told token request.Gone answer.NotYet old new
  pub failed : result ≡ looked.Failed → Told token request.Gone answer.Failed old new
  pub memory : result ≡ looked.Memory → IsAsBefore old new
