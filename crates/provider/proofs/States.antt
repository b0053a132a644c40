-- Each answer of a call moves a token's state as the table says.
use Rattle.std.proofs.Common.{◌≡◌, ◌≢◌, ◌⊎◌, ℕ, Bool, true, List, [], ◌∷◌, Option, Some, None, refl, sym, ap, arith, inl, inr}
use Rattle.std.specs.Prelude.{Contains, IsSome, option_map}
use Rattle.heat_value.specs.Data.{Members}
use Rattle.heat_plan.specs.declared.token.Token.{Token}
use Rattle.heat_plan.specs.declared.facts.Facts.{Facts}
use Rattle.heat_plan.specs.declared.calls.Request.{Request}
use Rattle.heat_plan.specs.declared.calls.Request.TheVariants as ask
use Rattle.heat_plan.specs.declared.calls.Answered.{Answered}
use Rattle.heat_plan.specs.declared.calls.Answered.TheVariants as answer
use Rattle.provider.specs.declared.alive.Alive.{Alive}
use Rattle.provider.specs.Table.{Living, TokenState, after, after_each, begun, updated, going, told}
use Rattle.provider.specs.Cloud.{Cloud, IsAlive, entry_of, living_of, state_of}
use Rattle.provider.specs.Changes.{IsKept, Stays, Renews, KeepsOthers, Adds, Sets, SendsAway, Removes, Takes}
use Rattle.provider.specs.Calls.{IsRefused, Waits, IsReady, IsBroken, Lingers}
use Rattle.provider.specs.Moves.{Answers, Rests, CallsMove}
use Rattle.provider.proofs.Sames.{same_members-same, same_members-other}
use Rattle.provider.proofs.Lists.{Contains-flat_map, Contains-once}

-- ---- what the state is

pub state-kept : (t : Token) (old new : Cloud) → IsKept t old new → state_of new t ≡ state_of old t
state-kept t old new k = rw (k.entry, k.leaving) refl

pub state-stays : (t : Token) (old new : Cloud) → Stays old new → state_of new t ≡ state_of old t
state-stays t old new k = rw (k.alive, k.leaving t) refl

pub state-renews : (t token : Token) (old new : Cloud) → Renews token old new → state_of new t ≡ state_of old t
state-renews t token old new k = rw (k.alive, k.leaving t) refl

pub others-kept : (token : Token) (old new : Cloud) → KeepsOthers token old new → (t : Token) → t ≢ token → state_of new t ≡ state_of old t
others-kept token old new k t ne = state-kept t old new (k t ne)

abbrev IsLiving : Bool → TokenState → Type 0
IsLiving leaving state = (it : Living) × (state ≡ Some it) × (it.leaving ≡ leaving)

living-entry : (e : Option Alive) (b : Bool) → IsSome e → IsLiving b (option_map (living_of b) e)
living-entry None b h = cc
living-entry (Some a) b h = (living_of b a, refl, refl)

-- an alive token's state
pub alive-state : (cloud : Cloud) (token : Token) → IsAlive cloud token → IsLiving (cloud.leaving token) (state_of cloud token)
alive-state cloud token there = living-entry (entry_of cloud token) (cloud.leaving token) there

pub entry-alive : (cloud : Cloud) (token : Token) (a : Alive) → entry_of cloud token ≡ Some a → IsAlive cloud token
entry-alive cloud token a e = rw e refl

one : (s : TokenState) → Contains (s ∷ []) s
one s = (0, omega arith, refl)

single : (s t : TokenState) → s ≡ t → Contains (s ∷ []) t
single s t e = (0, omega arith, e)

first : (s t : TokenState) → Contains (s ∷ t ∷ []) s
first s t = (0, omega arith, refl)

second : (s t : TokenState) → Contains (s ∷ t ∷ []) t
second s t = (1, omega arith, refl)

-- an answer that leaves the state
abbrev Leaves : Request → Answered → TokenState → Type 0
Leaves request given s = Contains (after request given s) s

pub rests : (token : Token) (request : Request) (given : Answered) (old new : Cloud) → Rests old new → Leaves request given (state_of old token) → Answers token request given old new
rests token request given old new r own = record { own = rw (r token) own; others = λ t ne. r t }

-- as `rests`, of a token that is alive
rests_alive : (token : Token) (request : Request) (given : Answered) (old new : Cloud) → Rests old new → IsAlive old token
    → ((it : Living) → it.leaving ≡ old.leaving token → Leaves request given (Some it)) → Answers token request given old new
rests_alive token request given old new r there own =
    let it = alive-state old token there in
    rests token request given old new r (rw it.1 (own it.0 it.2))

-- ---- the effects

own-adds : (token : Token) (kind : List ℕ) (props : Members) (old new : Cloud) → Adds token kind props old new → (state_of old token ≡ None) × (state_of new token ≡ Some (begun kind props))
own-adds token kind props old new a = (rw a.absent refl, rw (a.entry, a.young) refl)

updated-other : (props : Members) (it : Living) → it.props ≢ props → updated props it ≡ record it { props = props; facts = None }
updated-other props it h = rw (same_members-other props it.props (λ e. h (sym e))) refl

updated-same : (props : Members) (it : Living) → it.props ≡ props → updated props it ≡ it
updated-same props it h = rw (h, same_members-same props) refl

own-sets : (token : Token) (props : Members) (old new : Cloud) → Sets token props old new → (it : Living) × (state_of old token ≡ Some it) × (state_of new token ≡ Some (updated props it))
own-sets token props old new s =
    let it = living_of (old.leaving token) s.before in
    (it, rw s.turns.was refl, rw (updated-other props it s.differs, s.turns.is, s.leaving) refl)

own-sent : (token : Token) (old new : Cloud) → SendsAway token old new → (it : Living) × (state_of old token ≡ Some it) × (state_of new token ≡ Some (going it))
own-sent token old new s = sent (entry_of old token) refl s.there where
  sent : (e : Option Alive) → entry_of old token ≡ e → IsSome e → (it : Living) × (state_of old token ≡ Some it) × (state_of new token ≡ Some (going it))
  sent None at h = cc
  sent (Some a) at h = (living_of (old.leaving token) a, rw at refl, rw (s.alive, at, s.now) refl)

own-removed : (token : Token) (old new : Cloud) → Removes token old new → (it : Living) × (state_of old token ≡ Some it) × (it.leaving ≡ true) × (state_of new token ≡ None)
own-removed token old new r =
    let it = alive-state old token r.there in
    (it.0, it.1, rw it.2 r.leaving, rw r.absent refl)

-- ---- the calls

pub create-begun : (token : Token) (kind : List ℕ) (props : Members) (old new : Cloud) → Takes token (ask.Create kind props) old new → Answers token (ask.Create kind props) answer.Begun old new
create-begun token kind props old new (inl a) =
    let own = own-adds token kind props old new a in
    record { own = rw (own.0, own.1) (one _); others = others-kept token old new a.others }
create-begun token kind props old new (inr s) =
    rests_alive token _ _ old new (λ t. state-renews t token old new s.1) s.0 (λ it h. one _)

pub update-begun : (token : Token) (props : Members) (old new : Cloud) → Takes token (ask.Update props) old new → Answers token (ask.Update props) answer.Begun old new
update-begun token props old new (inl s) =
    let own = own-sets token props old new s in
    record { own = rw (own.1, own.2) (one _); others = others-kept token old new s.others }
update-begun token props old new (inr s) =
    let it = living_of (old.leaving token) s.0.it in
    let was : state_of old token ≡ Some it = rw s.0.entry refl in
    rests token _ _ old new (λ t. state-renews t token old new s.1) (rw was (single (Some (updated props it)) (Some it) (ap Some (updated-same props it s.0.same))))

going-same : (it : Living) → it.leaving ≡ true → going it ≡ it
going-same it h = rw (← h) refl

absent_or_alive : (e : Option Alive) → (e ≡ None) ⊎ IsSome e
absent_or_alive None = inl refl
absent_or_alive (Some a) = inr refl

pub delete-begun : (token : Token) (old new : Cloud) → Takes token ask.Delete old new → Answers token ask.Delete answer.Begun old new
delete-begun token old new (inl s) =
    let own = own-sent token old new s in
    record { own = rw (own.1, own.2) (one _); others = others-kept token old new s.others }
delete-begun token old new (inr s) = left (absent_or_alive (entry_of old token)) where
  still : Rests old new
  still t = state-renews t token old new s.1

  left : (entry_of old token ≡ None) ⊎ IsAlive old token → Answers token ask.Delete answer.Begun old new
  left (inl none) = rests token _ _ old new still (rw none (one _))
  left (inr there) = rests_alive token _ _ old new still there (λ it h. single (Some (going it)) (Some it) (ap Some (going-same it (rw h (s.0 there)))))

-- a request that failed and did nothing, or failed and did what Begun would
create-failed : (token : Token) (kind : List ℕ) (props : Members) (old new : Cloud) → Stays old new ⊎ Takes token (ask.Create kind props) old new → Answers token (ask.Create kind props) answer.Failed old new
create-failed token kind props old new (inl s) = left (absent_or_alive (entry_of old token)) where
  still : Rests old new
  still t = state-stays t old new s

  left : (entry_of old token ≡ None) ⊎ IsAlive old token → Answers token (ask.Create kind props) answer.Failed old new
  left (inl none) = rests token _ _ old new still (rw none (first _ _))
  left (inr there) = rests_alive token _ _ old new still there (λ it h. one _)
create-failed token kind props old new (inr (inl a)) =
    let own = own-adds token kind props old new a in
    record { own = rw (own.0, own.1) (second _ _); others = others-kept token old new a.others }
create-failed token kind props old new (inr (inr s)) =
    rests_alive token _ _ old new (λ t. state-renews t token old new s.1) s.0 (λ it h. one _)

update-failed : (token : Token) (props : Members) (old new : Cloud) → IsAlive old token → Stays old new ⊎ Takes token (ask.Update props) old new → Answers token (ask.Update props) answer.Failed old new
update-failed token props old new there (inl s) = rests_alive token _ _ old new (λ t. state-stays t old new s) there (λ it h. first _ _)
update-failed token props old new there (inr (inl s)) =
    let own = own-sets token props old new s in
    record { own = rw (own.1, own.2) (second _ _); others = others-kept token old new s.others }
update-failed token props old new there (inr (inr s)) = rests_alive token _ _ old new (λ t. state-renews t token old new s.1) there (λ it h. first _ _)

delete-rests : (token : Token) (old new : Cloud) → Rests old new → Answers token ask.Delete answer.Failed old new
delete-rests token old new still = left (absent_or_alive (entry_of old token)) where
  left : (entry_of old token ≡ None) ⊎ IsAlive old token → Answers token ask.Delete answer.Failed old new
  left (inl none) = rests token _ _ old new still (rw none (one _))
  left (inr there) = rests_alive token _ _ old new still there (λ it h. first _ _)

delete-failed : (token : Token) (old new : Cloud) → Stays old new ⊎ Takes token ask.Delete old new → Answers token ask.Delete answer.Failed old new
delete-failed token old new (inl s) = delete-rests token old new (λ t. state-stays t old new s)
delete-failed token old new (inr (inl s)) =
    let own = own-sent token old new s in
    record { own = rw (own.1, own.2) (second _ _); others = others-kept token old new s.others }
delete-failed token old new (inr (inr s)) = delete-rests token old new (λ t. state-renews t token old new s.1)

poll-failed : (token : Token) (old new : Cloud) → IsAlive old token → Stays old new ⊎ Takes token ask.Poll old new → Answers token ask.Poll answer.Failed old new
poll-failed token old new there (inl s) = rests_alive token _ _ old new (λ t. state-stays t old new s) there (λ it h. one _)
poll-failed token old new there (inr s) = absurd s

gone-failed : (token : Token) (old new : Cloud) → Stays old new ⊎ Takes token ask.Gone old new → Answers token ask.Gone answer.Failed old new
gone-failed token old new (inl s) = left (absent_or_alive (entry_of old token)) where
  still : Rests old new
  still t = state-stays t old new s

  left : (entry_of old token ≡ None) ⊎ IsAlive old token → Answers token ask.Gone answer.Failed old new
  left (inl none) = rests token _ _ old new still (rw none (one _))
  left (inr there) = rests_alive token _ _ old new still there (λ it h. one _)
gone-failed token old new (inr s) = absurd s

refused : (token : Token) (kind : List ℕ) (props : Members) (old new : Cloud) → IsRefused token kind props old new → Answers token (ask.Create kind props) answer.Quota old new
refused token kind props old new r = rests token _ _ old new (λ t. state-stays t old new r.stays) (rw r.absent (one _))

waits : (token : Token) (old new : Cloud) → IsAlive old token → Waits token old new → Answers token ask.Poll answer.NotYet old new
waits token old new there w = rests_alive token _ _ old new (λ t. state-renews t token old new w.lowers.rest) there (λ it h. one _)

ready : (token : Token) (facts : Facts) (old new : Cloud) → IsReady token facts old new → Answers token ask.Poll (answer.Ready facts) old new
ready token facts old new r =
    let it = living_of (old.leaving token) r.before in
    let was : state_of old token ≡ Some it = rw r.turns.was refl in
    let is : state_of new token ≡ Some (told facts it) = rw (r.turns.is, r.leaving) refl in
    record { own = rw (was, is) (one _); others = others-kept token old new r.others }

broken : (token : Token) (code : List ℕ) (old new : Cloud) → IsAlive old token → IsBroken token code old new → Answers token ask.Poll (answer.Broken code) old new
broken token code old new there b = rests_alive token _ _ old new (λ t. state-stays t old new b.stays) there (λ it h. one _)

is-gone : (token : Token) (old new : Cloud) → Removes token old new ⊎ ((entry_of old token ≡ None) × Stays old new) → Answers token ask.Gone answer.Gone old new
is-gone token old new (inl r) =
    let own = own-removed token old new r in
    record { own = rw (own.1, own.3, own.2) (one _); others = others-kept token old new r.others }
is-gone token old new (inr s) = rests token _ _ old new (λ t. state-stays t old new s.1) (rw s.0 (one _))

lingers : (token : Token) (old new : Cloud) → Lingers token old new → Answers token ask.Gone answer.NotYet old new
lingers token old new l = rests_alive token _ _ old new (λ t. state-renews t token old new l.lowers.rest) l.there (λ it h. rw (h, l.leaving) (one _))

-- ---- all of them

pub calls-move : (old new : Cloud) (token : Token) → CallsMove old new token
calls-move old new token = record {
  create = λ kind props h. create-begun token kind props old new h.effect;
  update = λ props h. update-begun token props old new h.effect;
  delete = λ h. delete-begun token old new h.effect;
  quota = λ kind props h. refused token kind props old new h;
  create_failed = λ kind props h. create-failed token kind props old new h.effect;
  update_failed = λ props there h. update-failed token props old new there h.effect;
  delete_failed = λ h. delete-failed token old new h.effect;
  poll_failed = λ there h. poll-failed token old new there h.effect;
  gone_failed = λ h. gone-failed token old new h.effect;
  not_yet = λ there h. waits token old new there h;
  ready = λ facts h. ready token facts old new h;
  broken = λ code there h. broken token code old new there h;
  gone = λ h. is-gone token old new h.effect;
  lingers = λ h. lingers token old new h;
}

pub fold-keeps : (old new : Cloud) (token : Token) (request : Request) (given : Answered) (states : List TokenState)
    → Answers token request given old new → Contains states (state_of old token) → Contains (after_each request given states) (state_of new token)
fold-keeps old new token request given states a c =
    Contains-once (state_of new token) _ (Contains-flat_map (after request given) (state_of old token) (state_of new token) states c a.own)
