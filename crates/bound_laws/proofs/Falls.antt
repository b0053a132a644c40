-- What each answer of a cloud makes of the polls left, and so each turn.
use Rattle.std.proofs.Common.{◌≡◌, ◌≢◌, ◌⊎◌, inl, inr, ◌≤◌, ◌<◌, ℕ, None, Some, sym, ap, subst, ◌∙◌, arith}
use Rattle.heat_plan.specs.declared.calls.Request.{Request}
use Rattle.heat_plan.specs.declared.calls.Request.TheVariants.{Create, Delete, Gone, Poll, Update}
use Rattle.heat_plan.specs.declared.token.Token.{Token}
use Rattle.provider.specs.Changes.{Removes, Stays, Takes}
use Rattle.provider.specs.Cloud.{Cloud, entry_of}
use Rattle.row_table.specs.Rows.{row_at}
use Rattle.mail_table.specs.declared.mail.Job.{Job}
use Rattle.core_state.specs.State.{StateData}
use Rattle.step_relation.specs.Given.{Answer, Given}
use Rattle.step_relation.specs.Rows.{token_of}
use Rattle.history_laws.proofs.tables.Rows.{same_some}
use Rattle.bound_laws.specs.Polls.{AreFew, IsOwn, Polled, ProvidersSpend, asked, unasked}
use Rattle.heat_plan.specs.declared.calls.Answered.TheVariants as answer

-- what a request does leaves the polls of other tokens
taken : (old new : Cloud) (token : Token) (request : Request) → Takes token request old new
    → (t : Token) → t ≢ token → new.left t ≡ old.left t
taken old new token (Create kind props) (inl adds) t ne = (adds.others t ne).left
taken old new token (Create kind props) (inr again) t ne = again.1.others t ne
taken old new token (Update props) (inl sets) t ne = (sets.others t ne).left
taken old new token (Update props) (inr again) t ne = again.1.others t ne
taken old new token Delete (inl sends) t ne = (sends.others t ne).left
taken old new token Delete (inr again) t ne = again.1.others t ne
taken old new token Poll takes t ne = absurd takes
taken old new token Gone takes t ne = absurd takes

pub providers_spend : ProvidersSpend
providers_spend old new token = record {
  begun = λ request h. record { waits = λ is. cc; others = taken old new token request h.effect };
  quota = λ kind props h. record { waits = λ is. cc; others = λ t ne. h.stays.left t };
  failed = λ request h. record { waits = λ is. cc; others = failed request h.effect };
  not_yet = λ h. record { waits = λ is. h.lowers.lower; others = λ t ne. h.lowers.rest.others t ne };
  ready = λ facts h. record { waits = λ is. cc; others = λ t ne. (h.others t ne).left };
  broken = λ code h. record { waits = λ is. cc; others = λ t ne. h.stays.left t };
  gone = λ h. record { waits = λ is. cc; others = gone h.effect };
  lingers = λ h. record { waits = λ is. h.lowers.lower; others = λ t ne. h.lowers.rest.others t ne };
} where
  failed : (request : Request) → Stays old new ⊎ Takes token request old new → (t : Token) → t ≢ token
      → new.left t ≡ old.left t
  failed request (inl stays) t ne = stays.left t
  failed request (inr takes) t ne = taken old new token request takes t ne

  gone : Removes token old new ⊎ ((entry_of old token ≡ None) × Stays old new) → (t : Token) → t ≢ token
      → new.left t ≡ old.left t
  gone (inl removes) t ne = (removes.others t ne).left
  gone (inr absent) t ne = absent.1.left t

-- at most 64 polls are left for a token, none is given to another token, and NotYet takes one
pub record PollsFall (before after : Token → ℕ) (s : StateData) (e : ℕ) (given : Given) : Type 0 where
  pub few : (t : Token) → after t ≤ 64
  pub others : (t : Token) → ¬ IsOwn s e t → after t ≤ before t
  pub falls : (t : Token) → given ≡ Answer answer.NotYet → IsOwn s e t → after t < before t

-- an engine's job has one token
own_one : (s : StateData) (e : ℕ) (t u : Token) → IsOwn s e t → IsOwn s e u → t ≡ u
own_one s e t u a b =
    let job = same_some a.job b.job a.its b.its in
    let found : row_at s.rows a.job.row ≡ Some b.row = ap (λ (j : Job). row_at s.rows j.row) job ∙ b.found in
    sym a.token ∙ (ap token_of (same_some a.row b.row a.found found) ∙ b.token)

pub falls_of : (s : StateData) (e : ℕ) (given : Given) (old new : Cloud) → Polled s e given old new → AreFew new
    → PollsFall old.left new.left s e given
falls_of s e given old new (unasked quiet same) few = record {
  few = few;
  others = λ t other. let k = same t in omega (arith, k);
  falls = λ t is own. absurd (quiet answer.NotYet is);
}
falls_of s e given old new (asked token a is own spends) few = record {
  few = few;
  others = λ t other. let k = spends.others t (λ same. other (subst (IsOwn s e) (sym same) own)) in omega (arith, k);
  falls = λ t waits its.
      let not_yet : a ≡ answer.NotYet = cc in
      let k = spends.waits not_yet in
      subst (λ (x : Token). new.left x < old.left x) (own_one s e token t own its) (omega (arith, k));
}
