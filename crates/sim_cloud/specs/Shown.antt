-- What a cloud in memory shows, and what its calls say beyond the trait.
use Rattle.std.specs.Prelude.{◌≡◌, ◌≢◌, ◌⊎◌, ◌+◌, ◌-◌, ◌^◌, min, ℕ, List, Bool, true}
use Rattle.std.specs.Prelude.{false, Option, Some, None, option_map, find, bytes_eq}
use Rattle.heat_value.specs.Data.{Members}
use Rattle.heat_plan.specs.declared.facts.Facts.{Facts}
use Rattle.heat_plan.specs.declared.kind.Kind.{Kind}
use Rattle.heat_plan.specs.declared.token.Token.{Token}
use Rattle.heat_plan.specs.declared.calls.Request.TheVariants as ask
use Rattle.provider.specs.declared.alive.Alive.{Alive}
use Rattle.provider.specs.declared.traced.Traced.{Traced}
use Rattle.provider.specs.Cloud.{Cloud, IsAlive, IsFull, entry_of}
use Rattle.provider.specs.Changes.{Stays, HasProps, Takes}
use Rattle.sim_cloud.specs.declared.held.Held.{Held}
use Rattle.sim_cloud.specs.declared.settings.KindQuota.{KindQuota}
use Rattle.sim_cloud.specs.Holding.{held_of, whats}
use Rattle.sim_cloud.specs.Rule.{fresh, facts_again}

-- what a cloud shows beside its resources
pub record Beside : Type 0 where
  pub trace : List Traced
  pub quota : List ℕ → Option ℕ
  pub faults : ℕ

abbrev pub leaving_of : Option Held → Bool
leaving_of None = false
leaving_of (Some h) = h.leaving

abbrev pub left_of : Option Held → ℕ
left_of None = 0
left_of (Some h) = h.left

abbrev pub shown : List Held → Beside → Cloud
shown held beside = record {
  alive = whats held;
  leaving = λ token. leaving_of (held_of held token);
  left = λ token. left_of (held_of held token);
  trace = beside.trace;
  quota = beside.quota;
  faults = beside.faults;
}

-- the first quota of that kind
abbrev pub quota_in : List KindQuota → List ℕ → Option ℕ
quota_in quotas kind = option_map (λ (q : KindQuota). q.most) (find (λ (q : KindQuota). bytes_eq q.kind kind) quotas)

-- the count of faults rises by one exactly where the call failed; at its last value it stands still
pub record CountsFault {A : Type 0} (failed result : A) (before now : ℕ) : Type 0 where
  pub raised : result ≡ failed → now ≡ min (before + 1) (2 ^ 64 - 1)
  pub same : result ≢ failed → now ≡ before

-- create, begun: a token that wasn't alive has its id and attributes by the rule, and so many polls left; else nothing
-- changes
pub record IsMade (token : Token) (kind : Kind) (props : Members) (polls : ℕ) (old new : Cloud) : Type 0 where
  pub entry : entry_of old token ≡ None → entry_of new token ≡ Some (fresh token kind props)
  pub left : entry_of old token ≡ None → new.left token ≡ polls
  pub again : IsAlive old token → Stays old new

-- update, begun: other properties give the attributes anew, and so many polls left; else nothing changes
pub record IsMadeAnew (token : Token) (props : Members) (polls : ℕ) (old new : Cloud) : Type 0 where
  pub entry : (it : Alive) → entry_of old token ≡ Some it → it.props ≢ props
      → entry_of new token
      ≡ Some (record it { props = props; facts = facts_again it.facts props token.row; ready = false })
  pub left : (it : Alive) → entry_of old token ≡ Some it → it.props ≢ props → new.left token ≡ polls
  pub again : HasProps old token props → Stays old new

-- delete, begun: an alive token that wasn't leaving has so many polls left; else nothing changes
pub record IsSentAway (token : Token) (polls : ℕ) (old new : Cloud) : Type 0 where
  pub left : (it : Alive) → entry_of old token ≡ Some it → old.leaving token ≡ false → new.left token ≡ polls
  pub again : (IsAlive old token → old.leaving token ≡ true) → Stays old new

-- create, failed late: with its effect done, or nothing where it would have been refused
abbrev pub IsMadeLate : Token → Kind → Members → ℕ → Cloud → Cloud → Type 0
IsMadeLate token kind props polls old new =
    (Takes token (ask.Create kind.name props) old new × IsMade token kind props polls old new)
    ⊎ ((entry_of old token ≡ None) × IsFull old kind.name × Stays old new)

-- update, failed late: with its effect done
abbrev pub IsMadeAnewLate : Token → Members → ℕ → Cloud → Cloud → Type 0
IsMadeAnewLate token props polls old new = Takes token (ask.Update props) old new × IsMadeAnew token props polls old new

-- delete, failed late: with its effect done
abbrev pub IsSentAwayLate : Token → ℕ → Cloud → Cloud → Type 0
IsSentAwayLate token polls old new = Takes token ask.Delete old new × IsSentAway token polls old new

-- the token's resource has these facts
abbrev pub HasFacts : Cloud → Token → Facts → Type 0
HasFacts cloud token facts = (it : Alive) → entry_of cloud token ≡ Some it → it.facts ≡ facts

-- the token has a resource, and it isn't ready
abbrev pub IsUnready : Cloud → Token → Type 0
IsUnready cloud token = (it : Alive) × (entry_of cloud token ≡ Some it) × (it.ready ≡ false)
