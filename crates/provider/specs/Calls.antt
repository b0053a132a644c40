-- What each answer of a provider's call says: when it comes, and what it makes of what the cloud shows.
use Rattle.std.specs.Prelude.{◌≡◌, ◌⊎◌, ◌≤◌, ℕ, List, true, None}
use Rattle.heat_value.specs.Data.{Members}
use Rattle.heat_value.specs.Counts.{Rose}
use Rattle.heat_plan.specs.declared.token.Token.{Token}
use Rattle.heat_plan.specs.declared.facts.Facts.{Facts}
use Rattle.heat_plan.specs.declared.calls.Request.{Request}
use Rattle.heat_plan.specs.declared.calls.Request.TheVariants as ask
use Rattle.heat_plan.specs.declared.calls.Answered.TheVariants as answer
use Rattle.provider.specs.declared.alive.Alive.{Alive}
use Rattle.provider.specs.declared.traced.Traced.TheVariants.{Called, Listed}
use Rattle.provider.specs.declared.traced.Listing.TheVariants as listing
use Rattle.provider.specs.Cloud.{Cloud, entry_of, IsAlive, IsFull}
use Rattle.provider.specs.Changes.{Notes, Stays, KeepsOthers, Turns, Removes, Takes, Lowers}

-- a token that may be asked for whether it is gone: if it is alive, it is leaving
abbrev pub MayGo : Cloud → Token → Type 0
MayGo cloud token = IsAlive cloud token → cloud.leaving token ≡ true

-- create, update, delete: Begun
pub record HasBegun (token : Token) (request : Request) (old new : Cloud) : Type 0 where
  pub noted : Notes (Called token request answer.Begun) old new
  pub effect : Takes token request old new

-- any request: Failed. It did nothing, or what Begun would
pub record HasFailed (token : Token) (request : Request) (old new : Cloud) : Type 0 where
  pub noted : Notes (Called token request answer.Failed) old new
  pub cause : Rose old.faults new.faults
  pub effect : Stays old new ⊎ Takes token request old new

-- create: Quota
pub record IsRefused (token : Token) (kind : List ℕ) (props : Members) (old new : Cloud) : Type 0 where
  pub noted : Notes (Called token (ask.Create kind props) answer.Quota) old new
  pub absent : entry_of old token ≡ None
  pub full : IsFull old kind
  pub stays : Stays old new

-- poll: NotYet
pub record Waits (token : Token) (old new : Cloud) : Type 0 where
  pub noted : Notes (Called token ask.Poll answer.NotYet) old new
  pub lowers : Lowers token old new

-- poll: Ready. The resource is ready and has the facts that are told from now on; one that was ready had them already.
-- It has no more polls left than before
pub record IsReady (token : Token) (facts : Facts) (old new : Cloud) : Type 0 where
  pub noted : Notes (Called token ask.Poll (answer.Ready facts)) old new
  pub before : Alive
  pub turns : Turns token old new before (record before { facts = facts; ready = true })
  pub steady : before.ready ≡ true → before.facts ≡ facts
  pub leaving : new.leaving token ≡ old.leaving token
  pub left : new.left token ≤ old.left token
  pub others : KeepsOthers token old new

-- poll: Broken
pub record IsBroken (token : Token) (code : List ℕ) (old new : Cloud) : Type 0 where
  pub noted : Notes (Called token ask.Poll (answer.Broken code)) old new
  pub stays : Stays old new

-- gone: Gone. The token was absent, or it was leaving and is absent now
pub record IsGone (token : Token) (old new : Cloud) : Type 0 where
  pub noted : Notes (Called token ask.Gone answer.Gone) old new
  pub effect : Removes token old new ⊎ ((entry_of old token ≡ None) × Stays old new)

-- gone: NotYet
pub record Lingers (token : Token) (old new : Cloud) : Type 0 where
  pub noted : Notes (Called token ask.Gone answer.NotYet) old new
  pub there : IsAlive old token
  pub leaving : old.leaving token ≡ true
  pub lowers : Lowers token old new

-- list: the alive list
pub record Lists (all : List Alive) (old new : Cloud) : Type 0 where
  pub noted : Notes (Listed listing.Got) old new
  pub all_of_them : all ≡ old.alive
  pub stays : Stays old new

-- list: Failed
pub record ListsNone (old new : Cloud) : Type 0 where
  pub noted : Notes (Listed listing.Failed) old new
  pub cause : Rose old.faults new.faults
  pub stays : Stays old new
