-- Each call moves each token as the table says.
use Rattle.std.specs.Prelude.{◌≡◌, ◌≢◌, ℕ, List, Contains}
use Rattle.heat_value.specs.Data.{Members}
use Rattle.heat_plan.specs.declared.token.Token.{Token}
use Rattle.heat_plan.specs.declared.facts.Facts.{Facts}
use Rattle.heat_plan.specs.declared.calls.Request.{Request}
use Rattle.heat_plan.specs.declared.calls.Request.TheVariants as ask
use Rattle.heat_plan.specs.declared.calls.Answered.{Answered}
use Rattle.heat_plan.specs.declared.calls.Answered.TheVariants as answer
use Rattle.provider.specs.declared.alive.Alive.{Alive}
use Rattle.provider.specs.Table.{TokenState, after, after_each}
use Rattle.provider.specs.Cloud.{Cloud, IsAlive, state_of}
use Rattle.provider.specs.Changes.{IsAsBefore}
use Rattle.provider.specs.Calls.{HasBegun, HasFailed, IsRefused, Waits, IsReady}
use Rattle.provider.specs.Calls.{IsBroken, IsGone, Lingers, Lists, ListsNone}

-- the asked token's state is one of its row, and no other token's has changed
pub record Answers (token : Token) (request : Request) (given : Answered) (old new : Cloud) : Type 0 where
  pub own : Contains (after request given (state_of old token)) (state_of new token)
  pub others : (t : Token) → t ≢ token → state_of new t ≡ state_of old t

-- no token's state has changed
abbrev pub Rests : Cloud → Cloud → Type 0
Rests old new = (t : Token) → state_of new t ≡ state_of old t

-- the answers of each call to a token
pub record CallsMove (old new : Cloud) (token : Token) : Type 0 where
  pub create : (kind : List ℕ) (props : Members) → HasBegun token (ask.Create kind props) old new
      → Answers token (ask.Create kind props) answer.Begun old new
  pub update : (props : Members) → HasBegun token (ask.Update props) old new
      → Answers token (ask.Update props) answer.Begun old new
  pub delete : HasBegun token ask.Delete old new → Answers token ask.Delete answer.Begun old new
  pub quota : (kind : List ℕ) (props : Members) → IsRefused token kind props old new
      → Answers token (ask.Create kind props) answer.Quota old new
  pub create_failed : (kind : List ℕ) (props : Members) → HasFailed token (ask.Create kind props) old new
      → Answers token (ask.Create kind props) answer.Failed old new
  pub update_failed : (props : Members) → IsAlive old token → HasFailed token (ask.Update props) old new
      → Answers token (ask.Update props) answer.Failed old new
  pub delete_failed : HasFailed token ask.Delete old new → Answers token ask.Delete answer.Failed old new
  pub poll_failed : IsAlive old token → HasFailed token ask.Poll old new → Answers token ask.Poll answer.Failed old new
  pub gone_failed : HasFailed token ask.Gone old new → Answers token ask.Gone answer.Failed old new
  pub not_yet : IsAlive old token → Waits token old new → Answers token ask.Poll answer.NotYet old new
  pub ready : (facts : Facts) → IsReady token facts old new → Answers token ask.Poll (answer.Ready facts) old new
  pub broken : (code : List ℕ) → IsAlive old token → IsBroken token code old new
      → Answers token ask.Poll (answer.Broken code) old new
  pub gone : IsGone token old new → Answers token ask.Gone answer.Gone old new
  pub lingers : Lingers token old new → Answers token ask.Gone answer.NotYet old new

-- the answers that move no token
pub record CallsRest (old new : Cloud) : Type 0 where
  pub lists : (all : List Alive) → Lists all old new → Rests old new
  pub lists_none : ListsNone old new → Rests old new
  pub memory : IsAsBefore old new → Rests old new

-- a token that could be in one of these states before can be in one of their rows' after
abbrev pub FoldKeeps : Type 0
FoldKeeps = (old new : Cloud) (token : Token) (request : Request) (given : Answered) (states : List TokenState)
    → Answers token request given old new → Contains states (state_of old token)
    → Contains (after_each request given states) (state_of new token)
