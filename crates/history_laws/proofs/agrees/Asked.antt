-- The outcomes of an ask and of a poll.
use Rattle.std.proofs.Common.{List, ap, append-nil, arith, inl, inr, refl, subst, sym, ◌∙◌}
use Rattle.std.specs.Prelude.{Contains, List, None, Option, Some, [], unwrap_or, ℕ, ◌++◌, ◌∷◌, ◌≡◌, ◌≢◌, ◌⊎◌}
use Rattle.heat_value.specs.Reading.{under}
use Rattle.heat_plan.specs.declared.calls.Answered.{Answered}
use Rattle.heat_plan.specs.declared.calls.Request.{Request}
use Rattle.heat_plan.specs.declared.facts.Facts.{Facts}
use Rattle.heat_plan.specs.declared.phase.Act.TheVariants.{Delete}
use Rattle.provider.specs.Table.{Living, TokenState, after, told}
use Rattle.row_table.specs.Rows.{row_at}
use Rattle.row_table.specs.declared.row.Row.{Row}
use Rattle.mail_table.specs.Mails.{job_at, put_job}
use Rattle.mail_table.specs.declared.mail.Job.{Job}
use Rattle.mail_table.specs.declared.mail.Letter.{Letter}
use Rattle.mail_table.specs.declared.mail.Stage.{Stage}
use Rattle.mail_table.specs.declared.mail.Stage.TheVariants.{Ending, Polling}
use Rattle.step_relation.specs.Changes.{applied}
use Rattle.step_relation.specs.State.{StateData}
use Rattle.step_relation.specs.declared.Actor.TheVariants.{Engine}
use Rattle.step_relation.specs.declared.Entry.{Entry}
use Rattle.step_relation.specs.declared.Why.{Why}
use Rattle.step_relation.specs.declared.Stack.{Stack}
use Rattle.step_relation.specs.Asks.{Asks, Calls, Falls, Polls, cause_at, failed_changes, failed_entries, looks, polls}
use Rattle.step_relation.specs.Begins.{begun_changes, begun_entries, onward_changes, onward_entries}
use Rattle.step_relation.specs.Cleanups.{purged_changes, purged_entries}
use Rattle.step_relation.specs.Rows.{failed_row, ready_row, token_of}
use Rattle.step_relation.specs.Writes.{call_entry, failed_mark, with_stage}
use Rattle.step_relation.specs.Could.{could_of}
use Rattle.step_relation.specs.Opening.{Opening}
use Rattle.step_relation.specs.Tokens.{MayLive}
use Rattle.step_relation.specs.Agrees.{IsAliveAs, IsReadyAs, PollFits, StateFits}
use Rattle.step_relation.specs.MailFits.{IsUnderWay}
use Rattle.step_relation.specs.Sound.{Sound}
use Rattle.step_relation.specs.Tells.{IsCalling}
use Rattle.history_laws.proofs.tables.Rows.{job_put, row-key, row_self, same_some}
use Rattle.history_laws.proofs.tells.Appends.{released_on, stored_on}
use Rattle.history_laws.proofs.tells.Marks.{unmade}
use Rattle.history_laws.proofs.tells.Silence.{AreUncalling, AreUnmarking}
use Rattle.history_laws.proofs.agrees.Begun.{begun_goes, made_failed, purged_goes}
use Rattle.history_laws.proofs.agrees.CallTold.{CallsFor, begun_row, in_progress}
use Rattle.history_laws.proofs.agrees.Called.{after_gone_gone, among_after, could_here, none_in, only}
use Rattle.history_laws.proofs.agrees.Ends.{failed_end, failed_state, next_row_kept}
use Rattle.history_laws.proofs.agrees.Goes.{Goes, PollGoes, polls_anew, was_given, was_polling}
use Rattle.history_laws.proofs.agrees.Going.{rows_put, rows_same}
use Rattle.history_laws.proofs.agrees.Jobs.{goes_with, polls_ended, put_else}
use Rattle.history_laws.proofs.agrees.Outcome.{Outcome, called}
use Rattle.history_laws.proofs.agrees.Suits.{AsksAt, alive_told, begun_fits, fits_failed, same_alive}
use Rattle.history_laws.proofs.agrees.Taken.{goes_still}
use Rattle.heat_plan.specs.declared.calls.Answered.TheVariants as answer
use Rattle.heat_plan.specs.declared.calls.Request.TheVariants as request

pub after_ready : (facts : Facts) (y x : TokenState) → Contains (after request.Poll (answer.Ready facts) y) x
    → (it : Living) × (y ≡ Some it) × (x ≡ Some (told facts it))
after_ready facts None x c = absurd (none_in x c)
after_ready facts (Some it) x c = (it, refl, only _ x c)

abbrev pub calls_for : (s : StateData) (e : ℕ) (stage : Stage) (k : Calls s e stage) (asked : Request)
    → IsUnderWay stage → AsksAt stage k.row asked
    → CallsFor s e k.row asked
calls_for s e stage k asked under asks_ = record {
  job = k.job;
  its = k.works.its;
  under_way = subst IsUnderWay (sym k.works.stage_is) under;
  found = k.found;
  asks = subst (λ (x : Stage). AsksAt x k.row asked) (sym k.works.stage_is) asks_;
}

module _ (o : Opening) (h : List Entry) (s : StateData) (e : ℕ) (x : Sound o h s) (r : Row) (asked : Request)
    (given : Answered) (k : CallsFor s e r asked) where
  self : row_at s.rows r.no ≡ Some r
  self = row_self s.rows k.job.row r k.found

  number : r.no ≡ k.job.row
  number = row-key s.rows k.job.row r k.found

  -- a state of the row's token behind the step comes from one before
  from : (rest : List Entry) → AreUncalling rest → (state : TokenState)
      → Contains (could_of o (h ++ call_entry e r asked given ∷ rest) (token_of r)) state
      → (y : TokenState) × Contains (could_of o h (token_of r)) y × Contains (after asked given y) state
  from rest none state among = among_after asked given (could_of o h (token_of r)) state
      (subst (λ (ss : List TokenState). Contains ss state) (could_here o h rest (Engine e)
      (token_of r) asked given none) among)

  outcome_called : (t : StateData) (rest : List Entry) → AreUnmarking rest → AreUncalling rest
      → (rest ≢ []) ⊎ IsCalling t e
      → stored_on s.rows rest ≡ t.rows → released_on s.released rest ≡ t.released → t.released ≡ s.released
      → t.stacks ≡ s.stacks → t.pasts ≡ s.pasts
      → Goes o (h ++ call_entry e r asked given ∷ rest) s t → Outcome o h s t e (call_entry e r asked given ∷ rest)
  outcome_called t rest unmarking uncalling some rows tokens same stacks pasts go = record {
    first = call_entry e r asked given ∷ rest;
    marks = [];
    entries = sym (append-nil (call_entry e r asked given ∷ rest));
    silent = (tt, unmarking);
    stored_is = rows;
    released_is = tokens;
    made = unmade refl stacks pasts;
    call = called r asked given rest k refl uncalling some same;
    goes = go;
  }

  pub waits_outcome : Outcome o h s s e (call_entry e r asked given ∷ [])
  waits_outcome = outcome_called s [] tt tt (inr (record { job = k.job; its = k.its; stage = k.under_way })) refl refl
      refl refl refl
      (goes_still o _ s s refl refl refl (omega arith))

  failed_goes : (g : List Entry) (letters : List Letter) (failed_ : Option Stack)
      → Goes o g s (failed_state s e r letters failed_)
  failed_goes g letters failed_ = goes_with o g s (failed_state s e r letters failed_) k.job.row
      x.standing.links.numbered
      (rows_put o g s.next.row r (failed_row r) s.rows self refl (λ free. free) (λ b. b) (λ a. a)
      (λ state among f. fits_failed (failed_row r) state (begun_row o h s x e r asked given k) refl))
      (put_else (failed_row r) s.rows k.job.row s.next.row number)
      (polls_ended s x.standing.links.locked e k.job k.its) refl (next_row_kept s.next letters)

  pub failed_outcome : (letters : List Letter) (failed_ : Option Stack) (reason : Why) → Falls s k.job letters failed_
      → Outcome o h s (applied (failed_changes s e r letters failed_) s) e
      (call_entry e r asked given ∷ failed_entries e r letters failed_ reason)
  failed_outcome letters failed_ reason falls =
      subst (λ (t : StateData). Outcome o h s t e
      (call_entry e r asked given ∷ failed_entries e r letters failed_ reason))
      (sym (failed_end s e r letters failed_)) (by failed_ falls) where
        by : (f : Option Stack) → Falls s k.job letters f
            → Outcome o h s (failed_state s e r letters f) e
            (call_entry e r asked given ∷ failed_entries e r letters f reason)
        by None fl = outcome_called (failed_state s e r letters None) (failed_entries e r letters None reason)
            (tt, (tt, tt)) (tt, (tt, tt)) (inl (λ i. cc))
            refl refl refl refl refl
            (failed_goes (h ++ call_entry e r asked given ∷ failed_entries e r letters None reason) letters None)
        by (Some st) fl = record {
          first = call_entry e r asked given ∷ failed_entries e r letters None reason;
          marks = failed_mark (Engine e) (Some st) (cause_at r reason);
          entries = refl;
          silent = (tt, (tt, (tt, tt)));
          stored_is = refl;
          released_is = refl;
          made = made_failed s (failed_state s e r letters (Some st)) k.job letters (Some st) (Engine e)
              (cause_at r reason) fl refl refl;
          call = called r asked given (failed_entries e r letters (Some st) reason) k refl (tt, (tt, (tt, tt)))
              (inl (λ i. cc)) refl;
          goes = failed_goes (h ++ call_entry e r asked given ∷ failed_entries e r letters (Some st) reason) letters
              (Some st);
        }

module _ (o : Opening) (h : List Entry) (s : StateData) (e : ℕ) (x : Sound o h s) (r : Row) where
  -- an ask that was begun
  pub asked_outcome : (asked : Request) (k : CallsFor s e r asked) → Asks r asked
      → Outcome o h s (applied (onward_changes k.job Polling) s) e
      (call_entry e r asked answer.Begun ∷ onward_entries e k.job Polling)
  asked_outcome asked k asks_ =
      outcome_called o h s e x r asked answer.Begun k (applied (onward_changes k.job Polling) s)
      (onward_entries e k.job Polling) (tt, tt) (tt, tt) (inl (λ i. cc))
      refl refl refl refl refl (record {
        rows = rows_same o _ s.next.row s.rows;
        jobs = jobs;
        up = λ y c. c;
        given_up = λ y c. was_given c;
        next = omega arith;
      }) where
        jobs : (f : ℕ) (w : Job) → job_at (put_job (with_stage Polling k.job) s.jobs) f ≡ Some w → w.stage ≡ Polling
            → PollGoes o (h ++ call_entry e r asked answer.Begun ∷ onward_entries e k.job Polling) s
            (applied (onward_changes k.job Polling) s) f w
        jobs f w at stage = elim (job_put (with_stage Polling k.job) s.jobs at) [
          | inr other ↦ was_polling other.1 (λ q found. found)
          | inl is ↦ polls_anew (λ q state found among.
              let row_is : k.job.row ≡ w.row = ap (λ (y : Job). y.row) is.1 in
              let q_is : q ≡ r = same_some q r (subst (λ (n : ℕ). row_at s.rows n ≡ Some q) (sym row_is) found)
              k.found in
              let (y, was, made) = from o h s e x r asked answer.Begun k (onward_entries e k.job Polling)
              (tt, tt) state
              (subst (λ (p : Row). Contains
              (could_of o (h ++ call_entry e r asked answer.Begun ∷ onward_entries e k.job Polling) (token_of p))
              state) q_is among) in
              subst (λ (p : Row). PollFits p state) (sym q_is)
              (begun_fits r asked y state asks_ (in_progress o h s x e r asked answer.Begun k)
              (λ act. (x.standing.shape.each_row k.job.row r k.found).plain (inr (inl act)))
              (x.agrees.rows k.job.row r y k.found was) made))
        ]

  -- a poll that found it ready
  pub ready_outcome : (facts : Facts) (k : CallsFor s e r request.Poll) → k.job.stage ≡ Polling → r.act ≢ Delete
      → Outcome o h s (applied (begun_changes k.job Ending (ready_row r facts)) s) e
      (call_entry e r request.Poll (answer.Ready facts) ∷ begun_entries e k.job Ending (ready_row r facts))
  ready_outcome facts k stage ne =
      outcome_called o h s e x r request.Poll (answer.Ready facts) k
      (applied (begun_changes k.job Ending (ready_row r facts)) s)
      (begun_entries e k.job Ending (ready_row r facts)) (tt, (tt, tt)) (tt, (tt, tt))
      (inl (λ i. cc)) refl refl refl refl refl
      (begun_goes o h s e x g k.job k.its Ending (λ i. cc) (ready_row r facts) (row-key s.rows k.job.row r k.found)
      (rows_put o g s.next.row r (ready_row r facts) s.rows (row_self s.rows k.job.row r k.found) refl
      (λ free act. absurd (ne act)) (λ b. b) (λ act. act) fit)) where
        g : List Entry
        g = h ++ call_entry e r request.Poll (answer.Ready facts) ∷ begun_entries e k.job Ending (ready_row r facts)

        ready_as : (state : TokenState)
            → Contains (could_of o (h ++ call_entry e r request.Poll
            (answer.Ready facts) ∷ begun_entries e k.job Ending (ready_row r facts)) (token_of r)) state
            → IsReadyAs (ready_row r facts) state
        ready_as state among =
            let (y, was, made) = from o h s e x r request.Poll (answer.Ready facts) k
            (begun_entries e k.job Ending (ready_row r facts)) (tt, (tt, tt)) state among in
            let (it, y_is, x_is) = after_ready facts y state made in
            let polled_ = (x.agrees.polled e k.job r y k.its stage k.found was).asked ne in
            let alive = alive_told r (unwrap_or r.target r.props) it facts
            (subst (IsAliveAs r (unwrap_or r.target r.props)) y_is polled_) in
            let same : alive.it ≡ told facts it = same_alive alive.it (told facts it)
            (Some (told facts it)) alive.alive refl in
            record {
              alive = record {
                it = alive.it;
                alive = x_is ∙ alive.alive;
                kind = alive.kind;
                props_are =
                    alive.props_are;
              };
              facts = ap (λ (z : Living). z.facts) same;
            }

        fit : (state : TokenState)
            → Contains (could_of o (h ++ call_entry e r request.Poll
            (answer.Ready facts) ∷ begun_entries e k.job Ending (ready_row r facts)) (token_of r)) state
            → StateFits r state → StateFits (ready_row r facts) state
        fit state among f = record {
          init = λ a. absurd (begun_row o h s x e r request.Poll (answer.Ready facts) k a);
          creating = λ a b. cc;
          ready = λ a b c. ready_as state among;
          updating = λ a b. cc;
        }

  -- a poll that found it gone
  pub gone_outcome : (k : CallsFor s e r request.Gone)
      → Outcome o h s (applied (purged_changes k.job r) s) e
      (call_entry e r request.Gone answer.Gone ∷ purged_entries e k.job r)
  gone_outcome k =
      outcome_called o h s e x r request.Gone answer.Gone k (applied (purged_changes k.job r) s)
      (purged_entries e k.job r) (tt, (tt, tt)) (tt, (tt, tt)) (inl (λ i. cc))
      refl refl refl refl refl
      (purged_goes o h s e x k.job r k.its k.found
      (h ++ call_entry e r request.Gone answer.Gone ∷ purged_entries e k.job r)
      (λ ne alive. none alive.lives) (λ act lives. none lives)) where
        none : ¬ MayLive (could_of o (h ++ call_entry e r request.Gone answer.Gone ∷ purged_entries e k.job r)
            (token_of r))
        none lives =
            let (y, was, made) = from o h s e x r request.Gone answer.Gone k (purged_entries e k.job r) (tt, (tt, tt))
            (Some lives.it) lives.among in
            let gone_ = after_gone_gone y (Some lives.it) made in cc

-- what a poll asks for
pub asks_poll : (r : Row) → r.act ≢ Delete → Polls r request.Poll
asks_poll r ne = polls ne

pub asks_gone : (r : Row) → r.act ≡ Delete → Polls r request.Gone
asks_gone r act = looks act
