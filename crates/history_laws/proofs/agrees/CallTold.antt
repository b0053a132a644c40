-- Behind a call for a job's row, what may be alive still fits the state that was called from.
use Rattle.std.proofs.Common.{ap, inl, inr, subst, sym, ◌∙◌}
use Rattle.std.specs.Prelude.{Contains, List, Some, [], true, ℕ, ◌++◌, ◌∷◌, ◌≡◌, ◌≢◌}
use Rattle.heat_plan.specs.declared.calls.Answered.{Answered}
use Rattle.heat_plan.specs.declared.calls.Request.{Request}
use Rattle.heat_plan.specs.declared.phase.Act.TheVariants.{Init}
use Rattle.heat_plan.specs.declared.phase.Status.TheVariants.{InProgress}
use Rattle.heat_plan.specs.declared.token.Token.{Token}
use Rattle.provider.specs.Table.{Living, TokenState, after}
use Rattle.row_table.specs.Rows.{row_at}
use Rattle.row_table.specs.declared.row.Row.{Row}
use Rattle.mail_table.specs.Mails.{job_at}
use Rattle.mail_table.specs.declared.mail.Job.{Job}
use Rattle.mail_table.specs.declared.mail.Stage.TheVariants.{Polling}
use Rattle.step_relation.specs.State.{StateData}
use Rattle.step_relation.specs.declared.Actor.TheVariants.{Engine}
use Rattle.step_relation.specs.declared.Entry.{Entry}
use Rattle.step_relation.specs.Rows.{token_of}
use Rattle.step_relation.specs.Writes.{call_entry}
use Rattle.step_relation.specs.Could.{could_of}
use Rattle.step_relation.specs.Opening.{Opening}
use Rattle.step_relation.specs.Stored.{released, stored}
use Rattle.step_relation.specs.Tokens.{IsNamed}
use Rattle.step_relation.specs.Agrees.{Agrees, IsSentAway, PollFits, StateFits}
use Rattle.step_relation.specs.MailFits.{HasUnderWay, IsUnderWay}
use Rattle.step_relation.specs.RowsFit.{RowFits}
use Rattle.step_relation.specs.Sound.{Sound}
use Rattle.history_laws.proofs.tables.Rows.{row-key, row_self, same_or_not, same_some}
use Rattle.history_laws.proofs.tells.Appends.{released-append, stored-append}
use Rattle.history_laws.proofs.agrees.Called.{among_after, could_else, could_here}
use Rattle.history_laws.proofs.agrees.Going.{AllFit}
use Rattle.history_laws.proofs.agrees.Suits.{AsksAt, at_asking, at_fits, at_polling, left_before, polls_fit}
use Rattle.history_laws.proofs.agrees.Tokens.{token_or_not}

-- an engine's job asks for its row
pub record CallsFor (s : StateData) (e : ℕ) (r : Row) (asked : Request) : Type 0 where
  pub job : Job
  pub its : job_at s.jobs e ≡ Some job
  pub under_way : IsUnderWay job.stage
  pub found : row_at s.rows job.row ≡ Some r
  pub asks : AsksAt job.stage r asked

module _ (o : Opening) (h : List Entry) (s : StateData) (x : Sound o h s) (e : ℕ) (r : Row) (asked : Request)
    (given : Answered)
    (k : CallsFor s e r asked) where
  abbrev g : List Entry
  g = h ++ call_entry e r asked given ∷ []

  number : r.no ≡ k.job.row
  number = row-key s.rows k.job.row r k.found

  pub in_progress : r.status ≡ InProgress
  in_progress = by (x.standing.shape.jobs.under_way e k.job k.its k.under_way) where
    by : HasUnderWay s k.job → r.status ≡ InProgress
    by u = ap (λ (q : Row). q.status) (same_some r u.row k.found u.found) ∙ u.status

  row_fits : RowFits r
  row_fits = x.standing.shape.each_row k.job.row r k.found

  pub begun_row : r.act ≢ Init
  begun_row init = let done = row_fits.init init in let e_ = sym in_progress ∙ done in cc

  -- a state of the row's token comes from one before the call
  pub from_before : (state : TokenState) → Contains (could_of o g (token_of r)) state
      → (y : TokenState) × Contains (could_of o h (token_of r)) y × Contains (after asked given y) state
  from_before state among = among_after asked given (could_of o h (token_of r)) state
      (subst (λ (ss : List TokenState). Contains ss state) (could_here o h [] (Engine e) (token_of r) asked given tt)
      among)

  other_before : (t : Token) (state : TokenState) → t ≢ token_of r → Contains (could_of o g t) state
      → Contains (could_of o h t) state
  other_before t state ne among = subst (λ (ss : List TokenState). Contains ss state)
      (could_else o h [] (Engine e) t (token_of r) asked given (λ i. ne (sym i)) tt) among

  apart : (n : ℕ) (p : Row) → row_at s.rows n ≡ Some p → n ≢ k.job.row → token_of p ≢ token_of r
  apart n p at ne same = ne (sym (row-key s.rows n p at) ∙ (ap (λ (t : Token). t.row) same ∙ number))

  own : (n : ℕ) (p : Row) → row_at s.rows n ≡ Some p → n ≡ k.job.row → p ≡ r
  own n p at is = same_some p r (subst (λ (m : ℕ). row_at s.rows m ≡ Some p) is at) k.found

  rows : AllFit o g s.rows
  rows n p state at among = elim (same_or_not n k.job.row) [
    | inr ne ↦ x.agrees.rows n p state at (other_before (token_of p) state (apart n p at ne) among)
    | inl is ↦
        let same = own n p at is in
        let (y, was, made) = from_before state
        (subst (λ (q : Row). Contains (could_of o g (token_of q)) state) same among) in
        subst (λ (q : Row). StateFits q state) (sym same)
        (at_fits k.job.stage r asked given y state k.asks in_progress (x.agrees.rows k.job.row r y k.found was) made)
  ]

  polled : (f : ℕ) (j : Job) (p : Row) (state : TokenState) → job_at s.jobs f ≡ Some j → j.stage ≡ Polling
      → row_at s.rows j.row ≡ Some p
      → Contains (could_of o g (token_of p)) state → PollFits p state
  polled f j p state at stage found among = elim (same_or_not j.row k.job.row) [
    | inr ne ↦ x.agrees.polled f j p state at stage found (other_before (token_of p) state
        (apart j.row p found ne) among)
    | inl is ↦
        let same = own j.row p found is in
        let (y, was, made) = from_before state
        (subst (λ (q : Row). Contains (could_of o g (token_of q)) state) same among) in
        let engine_is = x.standing.links.locked.apart f e j k.job at k.its is in
        let job_is : j ≡ k.job = same_some j k.job (subst (λ (m : ℕ). job_at s.jobs m ≡ Some j) engine_is at) k.its in
        let stage_is : k.job.stage ≡ Polling = ap (λ (q : Job). q.stage) (sym job_is) ∙ stage in
        subst (λ (q : Row). PollFits q state) (sym same)
        (by k.asks stage_is y was made)
  ] where
    by : AsksAt k.job.stage r asked → k.job.stage ≡ Polling → (y : TokenState)
        → Contains (could_of o h (token_of r)) y
        → Contains (after asked given y) state → PollFits r state
    by (at_asking s_is a) stage_is y was made = let e_ = sym s_is ∙ stage_is in cc
    by (at_polling s_is p_) stage_is y was made = polls_fit r asked given y state p_
        (x.agrees.polled e k.job r y k.its stage_is k.found was) made

  stored_is : stored o g ≡ stored o h
  stored_is = stored-append o h (call_entry e r asked given ∷ [])

  released_is : released o g ≡ released o h
  released_is = released-append o h (call_entry e r asked given ∷ [])

  named : IsNamed o g
  named t alive = elim (token_or_not t (token_of r)) [
    | inl is ↦
        let at_r : row_at s.rows r.no ≡ Some r = row_self s.rows k.job.row r k.found in
        let at_t : row_at s.rows t.row ≡ Some r = subst (λ (m : ℕ). row_at s.rows m ≡ Some r)
        (ap (λ (u : Token). u.row) (sym is)) at_r in
        record {
          row = r;
          found = subst (λ (rs : List Row). row_at rs t.row ≡ Some r) (sym (stored_is ∙ x.tells.rows)) at_t;
          its = sym is;
          begun = begun_row;
        }
    | inr ne ↦
        let was = x.agrees.named t (record {
          lives = record { it = alive.lives.it; among = other_before t (Some alive.lives.it) ne alive.lives.among };
          owned = λ c. alive.owned (subst (λ (ts : List Token). Contains ts t) (sym released_is) c);
        }) in
        record {
          row = was.row;
          found = subst (λ (rs : List Row). row_at rs t.row ≡ Some was.row)
              (sym stored_is) was.found;
          its = was.its;
          begun = was.begun;
        }
  ]

  leaving : (t : Token) (it : Living) → Contains (could_of o g t) (Some it) → it.leaving ≡ true → IsSentAway s t
  leaving t it among left = elim (token_or_not t (token_of r)) [
    | inr ne ↦ x.agrees.leaving t it (other_before t (Some it) ne among) left
    | inl is ↦
        let (y, was, made) = from_before (Some it)
        (subst (λ (u : Token). Contains (could_of o g u) (Some it)) is among) in
        elim (left_before k.job.stage r asked given y it k.asks made left) [
          | inl act ↦ record {
            row = r;
            found = subst (λ (m : ℕ). row_at s.rows m ≡ Some r) (ap (λ (u : Token). u.row) (sym is))
                (row_self s.rows k.job.row r k.found);
            its = sym is;
            act = act;
          }
          | inr (old, y_is, old_left) ↦ x.agrees.leaving t old
              (subst (λ (u : Token). Contains (could_of o h u) (Some old)) (sym is)
              (subst (λ (z : TokenState). Contains (could_of o h (token_of r)) z) y_is was)) old_left
        ]
  ]

  pub called_agrees : Agrees o g s
  called_agrees = record { named = named; rows = rows; polled = polled; leaving = leaving }
