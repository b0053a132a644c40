-- What a call changes of what a cloud shows, and what it leaves.
use Rattle.std.specs.Prelude.{◌≡◌, ◌≢◌, ◌⊎◌, ◌≤◌, ℕ, List, [], ◌∷◌, ◌++◌, suc, true, false, None, Some}
use Rattle.heat_value.specs.Data.{Members}
use Rattle.heat_plan.specs.declared.token.Token.{Token}
use Rattle.heat_plan.specs.declared.facts.Facts.{Facts}
use Rattle.heat_plan.specs.declared.calls.Request.{Request}
use Rattle.heat_plan.specs.declared.calls.Request.TheVariants.{Create, Update, Delete, Poll, Gone}
use Rattle.provider.specs.declared.alive.Alive.{Alive}
use Rattle.provider.specs.declared.traced.Traced.{Traced}
use Rattle.provider.specs.Cloud.{Cloud, entry_of, IsAlive, IsFull}

-- the call stands behind the trace, the count of faults hasn't fallen, and quotas are as before
pub record Notes (call : Traced) (old new : Cloud) : Type 0 where
  pub trace : new.trace ≡ old.trace ++ call ∷ []
  pub faults : old.faults ≤ new.faults
  pub quota : (kind : List ℕ) → new.quota kind ≡ old.quota kind

-- no resource has changed
pub record Stays (old new : Cloud) : Type 0 where
  pub alive : new.alive ≡ old.alive
  pub leaving : (t : Token) → new.leaving t ≡ old.leaving t
  pub left : (t : Token) → new.left t ≡ old.left t

-- no resource has changed, but the token may have other polls left
pub record Renews (token : Token) (old new : Cloud) : Type 0 where
  pub alive : new.alive ≡ old.alive
  pub leaving : (t : Token) → new.leaving t ≡ old.leaving t
  pub others : (t : Token) → t ≢ token → new.left t ≡ old.left t

-- all is as before, the trace and the count of faults too
pub record IsAsBefore (old new : Cloud) : Type 0 where
  pub stays : Stays old new
  pub trace : new.trace ≡ old.trace
  pub faults : new.faults ≡ old.faults
  pub quota : (kind : List ℕ) → new.quota kind ≡ old.quota kind

-- what belongs to this token is as before
pub record IsKept (t : Token) (old new : Cloud) : Type 0 where
  pub entry : entry_of new t ≡ entry_of old t
  pub leaving : new.leaving t ≡ old.leaving t
  pub left : new.left t ≡ old.left t

-- every other token is
abbrev pub KeepsOthers : Token → Cloud → Cloud → Type 0
KeepsOthers token old new = (t : Token) → t ≢ token → IsKept t old new

-- the token's resource before and after
pub record Turns (token : Token) (old new : Cloud) (before after : Alive) : Type 0 where
  pub was : entry_of old token ≡ Some before
  pub is : entry_of new token ≡ Some after

-- a resource is added, not ready and not leaving, with any facts and polls left
pub record Adds (token : Token) (kind : List ℕ) (props : Members) (old new : Cloud) : Type 0 where
  pub absent : entry_of old token ≡ None
  pub room : ¬ IsFull old kind
  pub facts : Facts
  pub entry : entry_of new token
      ≡ Some (record { token = token; kind = kind; props = props; facts = facts; ready = false })
  pub young : new.leaving token ≡ false
  pub others : KeepsOthers token old new

-- a resource gets other properties, is not ready, and has any facts and polls left
pub record Sets (token : Token) (props : Members) (old new : Cloud) : Type 0 where
  pub before : Alive
  pub facts : Facts
  pub differs : before.props ≢ props
  pub turns : Turns token old new before (record before { props = props; facts = facts; ready = false })
  pub leaving : new.leaving token ≡ old.leaving token
  pub others : KeepsOthers token old new

-- a resource that wasn't leaving is, with any polls left
pub record SendsAway (token : Token) (old new : Cloud) : Type 0 where
  pub there : IsAlive old token
  pub before : old.leaving token ≡ false
  pub now : new.leaving token ≡ true
  pub alive : new.alive ≡ old.alive
  pub others : KeepsOthers token old new

-- a resource is there no more
pub record Removes (token : Token) (old new : Cloud) : Type 0 where
  pub there : IsAlive old token
  pub leaving : old.leaving token ≡ true
  pub absent : entry_of new token ≡ None
  pub others : KeepsOthers token old new

-- the token has these properties already
pub record HasProps (cloud : Cloud) (token : Token) (props : Members) : Type 0 where
  pub it : Alive
  pub entry : entry_of cloud token ≡ Some it
  pub same : it.props ≡ props

-- What a request does where it is begun. A second one changes nothing but the polls left: a create of an alive token,
-- an update to the same properties, a delete of a token that is leaving or absent.
abbrev pub Takes : Token → Request → Cloud → Cloud → Type 0
Takes token (Create kind props) old new = Adds token kind props old new ⊎ (IsAlive old token × Renews token old new)
Takes token (Update props) old new = Sets token props old new ⊎ (HasProps old token props × Renews token old new)
Takes token Delete old new =
    SendsAway token old new ⊎ ((IsAlive old token → old.leaving token ≡ true) × Renews token old new)
Takes token Poll old new = ⊥
Takes token Gone old new = ⊥

-- polls left is lowered by one, and nothing else changes
pub record Lowers (token : Token) (old new : Cloud) : Type 0 where
  pub lower : suc (new.left token) ≡ old.left token
  pub rest : Renews token old new
