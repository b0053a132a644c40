-- Calls of an inventory that failed.
use Rattle.std.proofs.Common.{◌≡◌, ◌⊎◌, ◌≤◌, ◌+◌, ◌-◌, ◌^◌, ℕ, min, List, [], ◌∷◌, ◌++◌, refl, arith, inl, inr}
use Rattle.heat_plan.specs.declared.token.Token.{Token}
use Rattle.heat_plan.specs.declared.calls.Request.{Request}
use Rattle.heat_plan.specs.declared.calls.Request.TheVariants.{Create, Update, Delete, Poll, Gone}
use Rattle.heat_plan.specs.declared.calls.Answered.TheVariants as answer
use Rattle.provider.specs.declared.traced.Traced.{Traced}
use Rattle.provider.specs.declared.traced.Traced.TheVariants.{Called, Listed}
use Rattle.provider.specs.declared.traced.Listing.TheVariants as listing
use Rattle.provider.specs.Cloud.{Cloud}
use Rattle.provider.specs.Changes.{Notes, Stays, Renews, KeepsOthers, Takes, HasProps}
use Rattle.provider.specs.Calls.{HasFailed, ListsNone}
use Rattle.sim_cloud.specs.declared.held.Held.{Held}
use Rattle.sim_cloud.specs.declared.inventory.Inventory.{Inventory}
use Rattle.heat_value.specs.Data.{Members}
use Rattle.heat_plan.specs.declared.kind.Kind.{Kind}
use Rattle.sim_cloud.specs.Shown.{Beside, shown, quota_in, IsMade, IsMadeAnew, IsSentAway, IsMadeLate, IsMadeAnewLate, IsSentAwayLate}
use Rattle.sim_cloud.specs.Simulated.{beside_of, shown_by}

-- the inventory's quotas and count, with another trace
abbrev pub with_trace : Inventory → List Traced → Beside
with_trace i trace = record { trace = trace; quota = quota_in i.quotas; faults = i.faults }

others_on : (token : Token) (old : Cloud) (ys : List Held) (v w : Beside) → KeepsOthers token old (shown ys v) → KeepsOthers token old (shown ys w)
others_on token old ys v w k t ne = let o = k t ne in record { entry = o.entry; leaving = o.leaving; left = o.left }

pub stays_on : (old : Cloud) (ys : List Held) (v w : Beside) → Stays old (shown ys v) → Stays old (shown ys w)
stays_on old ys v w s = record { alive = s.alive; leaving = s.leaving; left = s.left }

renews_on : (token : Token) (old : Cloud) (ys : List Held) (v w : Beside) → Renews token old (shown ys v) → Renews token old (shown ys w)
renews_on token old ys v w s = record { alive = s.alive; leaving = s.leaving; others = s.others }

-- an effect is one of the resources alone
pub takes_on : (token : Token) (request : Request) (old : Cloud) (ys : List Held) (v w : Beside) → Takes token request old (shown ys v) → Takes token request old (shown ys w)
takes_on token (Create kind props) old ys v w (inl a) =
    inl (record { absent = a.absent; room = a.room; facts = a.facts; entry = a.entry; young = a.young; others = others_on token old ys v w a.others })
takes_on token (Create kind props) old ys v w (inr s) = inr (s.0, renews_on token old ys v w s.1)
takes_on token (Update props) old ys v w (inl a) =
    inl (record { before = a.before; facts = a.facts; differs = a.differs; turns = record { was = a.turns.was; is = a.turns.is }; leaving = a.leaving; others = others_on token old ys v w a.others })
takes_on token (Update props) old ys v w (inr s) = inr (s.0, renews_on token old ys v w s.1)
takes_on token Delete old ys v w (inl a) =
    inl (record { there = a.there; before = a.before; now = a.now; alive = a.alive; others = others_on token old ys v w a.others })
takes_on token Delete old ys v w (inr s) = inr (s.0, renews_on token old ys v w s.1)
takes_on token Poll old ys v w e = absurd e
takes_on token Gone old ys v w e = absurd e

either_on : (token : Token) (request : Request) (old : Cloud) (ys : List Held) (v w : Beside) → Stays old (shown ys v) ⊎ Takes token request old (shown ys v) → Stays old (shown ys w) ⊎ Takes token request old (shown ys w)
either_on token request old ys v w (inl s) = inl (stays_on old ys v w s)
either_on token request old ys v w (inr e) = inr (takes_on token request old ys v w e)

-- the fault is counted, and nothing else changes
pub record Counts (m n : Inventory) : Type 0 where
  pub faults : n.faults ≡ min (m.faults + 1) (2 ^ 64 - 1)
  pub later : m.faults ≤ n.faults
  pub held : n.held ≡ m.held
  pub quotas : n.quotas ≡ m.quotas
  pub trace : n.trace ≡ m.trace

-- a call that was noted as failed, and then counted
pub has_failed : (i m n : Inventory) (token : Token) (request : Request) → Counts m n → m.faults ≡ i.faults → Notes (Called token request answer.Failed) (shown_by i) (shown_by m)
    → Stays (shown_by i) (shown_by m) ⊎ Takes token request (shown_by i) (shown_by m) → HasFailed token request (shown_by i) (shown_by n)
has_failed i m n token request c same notes effect =
    let moved : shown_by n ≡ shown m.held.all (beside_of n) = rw c.held refl in
    record {
      noted = record { trace = rw c.trace notes.trace; faults = omega (arith, c.later, same); quota = λ kind. rw c.quotas (notes.quota kind) };
      cause = omega (arith, c.faults, same);
      effect = rw moved (either_on token request (shown_by i) m.held.all (beside_of m) (beside_of n) effect);
    }

pub lists_none : (i n : Inventory) (trace : List Traced) → Counts (record i { trace = trace }) n → trace ≡ i.trace ++ Listed listing.Failed ∷ [] → ListsNone (shown_by i) (shown_by n)
lists_none i n trace c e =
    let moved : shown_by n ≡ shown i.held.all (beside_of n) = rw c.held refl in
    record {
      noted = record { trace = rw c.trace e; faults = c.later; quota = λ kind. rw c.quotas refl };
      cause = omega (arith, c.faults);
      stays = rw moved (record { alive = refl; leaving = λ t. refl; left = λ t. refl });
    }

-- ---- what was made is still so when the fault is counted

made_on : (token : Token) (kind : Kind) (props : Members) (polls : ℕ) (old : Cloud) (ys : List Held) (v w : Beside) → IsMade token kind props polls old (shown ys v) → IsMade token kind props polls old (shown ys w)
made_on token kind props polls old ys v w m = record { entry = m.entry; left = m.left; again = λ there. stays_on old ys v w (m.again there) }

pub made_late : (i m n : Inventory) (token : Token) (kind : Kind) (props : Members) (polls : ℕ) → Counts m n
    → Takes token (Create kind.name props) (shown_by i) (shown_by m) → IsMade token kind props polls (shown_by i) (shown_by m) → IsMadeLate token kind props polls (shown_by i) (shown_by n)
made_late i m n token kind props polls c takes made =
    let moved : shown_by n ≡ shown m.held.all (beside_of n) = rw c.held refl in
    rw moved (inl (takes_on token (Create kind.name props) (shown_by i) m.held.all (beside_of m) (beside_of n) takes, made_on token kind props polls (shown_by i) m.held.all (beside_of m) (beside_of n) made))

pub anew_late : (i m n : Inventory) (token : Token) (props : Members) (polls : ℕ) → Counts m n
    → Takes token (Update props) (shown_by i) (shown_by m) → IsMadeAnew token props polls (shown_by i) (shown_by m) → IsMadeAnewLate token props polls (shown_by i) (shown_by n)
anew_late i m n token props polls c takes made =
    let moved : shown_by n ≡ shown m.held.all (beside_of n) = rw c.held refl in
    rw moved (
      takes_on token (Update props) (shown_by i) m.held.all (beside_of m) (beside_of n) takes,
      record { entry = made.entry; left = made.left; again = λ has. stays_on (shown_by i) m.held.all (beside_of m) (beside_of n) (made.again has) },
    )

pub sent_late : (i m n : Inventory) (token : Token) (polls : ℕ) → Counts m n
    → Takes token Delete (shown_by i) (shown_by m) → IsSentAway token polls (shown_by i) (shown_by m) → IsSentAwayLate token polls (shown_by i) (shown_by n)
sent_late i m n token polls c takes made =
    let moved : shown_by n ≡ shown m.held.all (beside_of n) = rw c.held refl in
    rw moved (
      takes_on token Delete (shown_by i) m.held.all (beside_of m) (beside_of n) takes,
      record { left = made.left; again = λ gone. stays_on (shown_by i) m.held.all (beside_of m) (beside_of n) (made.again gone) },
    )
