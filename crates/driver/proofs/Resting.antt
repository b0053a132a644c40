-- Where each live engine has nothing to do, or no work is left, the book is idle.
use Rattle.std.proofs.Common.{ap, arith, get_or, inl, inr, refl, subst, sym, ◌∙◌, ◌⊎◌}
use Rattle.std.specs.Prelude.{Contains, IfSome, List, None, Option, Some, [], length, nat_eq, true, zero, ℕ, ◌+◌, ◌<◌}
use Rattle.std.specs.Prelude.{◌∷◌, ◌≡◌, ◌≢◌, ◌≤◌}
use Rattle.std.proofs.lemmas.Bool.Decides.{Decides-eqb}
use Rattle.std.proofs.lemmas.List.{get_or_default}
use Rattle.dep_graph.specs.Lists.{IsRising}
use Rattle.heat_plan.specs.Tables.{at}
use Rattle.heat_plan.specs.declared.token.Token.{Token}
use Rattle.row_table.specs.Rows.{row_at}
use Rattle.row_table.specs.declared.row.Row.{Row}
use Rattle.mail_table.specs.Mails.{job_at, job_key, letter_at, letter_key}
use Rattle.mail_table.specs.declared.mail.Job.{Job}
use Rattle.mail_table.specs.declared.mail.Letter.{Letter}
use Rattle.mail_table.specs.declared.mail.Stage.{Stage}
use Rattle.mail_table.specs.declared.mail.Stage.TheVariants.{Asking, Ending, Polling, Taken}
use Rattle.core_state.specs.State.{StateData}
use Rattle.step_relation.specs.Nexts as next
use Rattle.next_laws.proofs.Listings.{in_head, no_member}
use Rattle.history_laws.proofs.tables.Rows.{same_or_not}
use Rattle.next_laws.proofs.Decide.{below_or_not, member_or_not}
use Rattle.step_relation.specs.Headline.{IsIdleBook}
use Rattle.step_relation.specs.MailFits.{IsUnderWay, polls}
use Rattle.step_relation.specs.Sound.{Standing}
use Rattle.book.specs.Quiet.{IsIdle}
use Rattle.bound_laws.specs.Bound.{IsWork}
use Rattle.bound_laws.specs.Counts.{Counts}
use Rattle.bound_laws.specs.Work.{IsAt, IsLeft}
use Rattle.driver.specs.Rounds.{AreIdleFrom, IsFirstFrom, IsNext, IsPassed, above, below, between}

-- a list in which nothing is found is empty
none_found : {A : Type 0} (key : A → ℕ) (xs : List A) → ((n : ℕ) → at nat_eq key xs n ≡ None) → xs ≡ []
unfolding at
none_found key [] none = refl
none_found key (x ∷ xs) none =
    let here : nat_eq (key x) (key x) ≡ true = (Decides-eqb (key x) (key x)).1 refl in
    let nothing = none (key x) in
    let something : at nat_eq key (x ∷ xs) (key x) ≡ Some x = rw here refl in
    cc

pub silent_book : (s : StateData) → next.NoLetters s → ((e : ℕ) → job_at s.jobs e ≡ None) → IsIdle s
silent_book s silent jobless = record {
  letters = none_found letter_key s.letters silent;
  jobs = none_found job_key s.jobs jobless;
}

-- an idle book, as the main theorem says it
pub as_book : (s : StateData) → IsIdle s → IsIdleBook s
unfolding at
as_book s idle = record {
  silent = λ n. subst (λ (ls : List Letter). letter_at ls n ≡ None) (sym idle.letters) (nothing n);
  jobless = λ e. subst (λ (js : List Job). job_at js e ≡ None) (sym idle.jobs) (nowhere e);
} where
  nothing : (n : ℕ) → letter_at [] n ≡ None
  nothing n = refl

  nowhere : (e : ℕ) → job_at [] e ≡ None
  nowhere e = refl

-- an engine with something to do is there only where the book isn't idle
pub still_busy : (s : StateData) (last e : ℕ) → IsNext s last e → ¬ IsIdle s
still_busy s last e k idle = k.busy (record {
  live = k.live;
  jobless = jobless e;
  silent = (as_book s idle).silent;
  none_left = λ f j left. let there = left.its in let nowhere = jobless f in cc;
}) where
  jobless : (f : ℕ) → job_at s.jobs f ≡ None
  jobless = (as_book s idle).jobless

some_live : (live : List ℕ) → live ≢ [] → (e : ℕ) × Contains live e
some_live [] filled = absurd (filled refl)
some_live (e ∷ es) filled = (e, in_head es e)

pub all_idle : (s : StateData) → s.live ≢ [] → AreIdleFrom s 0 → IsIdle s
all_idle s filled idle = silent_book s (idle one.0 one.1 (omega arith)).silent jobless where
  one : (e : ℕ) × Contains s.live e
  one = some_live s.live filled

  by : (e : ℕ) (found : Option Job) → job_at s.jobs e ≡ found → job_at s.jobs e ≡ None
  by e None is = is
  by e (Some j) is = elim (member_or_not same_or_not s.live e) [
    | inl live ↦ (idle e live (omega arith)).jobless
    | inr stopped ↦ absurd ((idle one.0 one.1 (omega arith)).none_left e j (record { stopped = stopped; its = is }))
  ]

  jobless : (e : ℕ) → job_at s.jobs e ≡ None
  jobless e = by e (job_at s.jobs e) refl

-- the first from behind the last one, or the first of all where none is behind it
pub next_above : (s : StateData) (last e : ℕ) → IsFirstFrom s (last + 1) e → IsNext s last e
next_above s last e f = record { live = f.live; busy = f.busy; passed = passed } where
  passed : (x : ℕ) → Contains s.live x → IsPassed last e x → next.IsIdle s x
  passed x live (between lt less) = f.lowest x live (omega (arith, lt)) less
  passed x live (above le lt) = let up = f.reached in absurd (omega (arith, le, up))
  passed x live (below le lt) = let up = f.reached in absurd (omega (arith, le, up))

pub next_below : (s : StateData) (last e : ℕ) → AreIdleFrom s (last + 1) → IsFirstFrom s 0 e → IsNext s last e
next_below s last e idle f = record { live = f.live; busy = f.busy; passed = passed } where
  passed : (x : ℕ) → Contains s.live x → IsPassed last e x → next.IsIdle s x
  passed x live (between lt less) = f.lowest x live (omega arith) less
  passed x live (above le lt) = idle x live (omega (arith, lt))
  passed x live (below le lt) = f.lowest x live (omega arith) lt

module _ (s : StateData) (from : ℕ) where
  -- what was seen from a number on had nothing to do
  abbrev pub SeenIdle : List ℕ → ℕ → Type 0
  SeenIdle live i = (k : ℕ) → k < i → from ≤ get_or live k 0 → next.IsIdle s (get_or live k 0)

  pub seen_more : (live : List ℕ) (i e : ℕ) → i < length live → e ≡ get_or live i e → SeenIdle live i
      → (from ≤ e → next.IsIdle s e)
      → SeenIdle live (i + 1)
  seen_more live i e lt is seen idle k less le = elim (same_or_not k i) [
    | inl same ↦ (let at : get_or live k 0 ≡ e = ap (λ (n : ℕ). get_or live n 0) same
        ∙ (get_or_default live i 0 e lt ∙ sym is) in
        subst (next.IsIdle s) (sym at) (idle (omega (arith, le, at))))
    | inr ne ↦ seen k (omega (arith, less, ne)) le
  ]

  pub none_seen : (live : List ℕ) (i : ℕ) → live ≡ s.live → length live ≤ i → SeenIdle live i → AreIdleFrom s from
  none_seen live i is all seen x among le =
      let (k, lt, at) = subst (λ (l : List ℕ). Contains l x) (sym is) among in
      let there : get_or live k 0 ≡ x = get_or_default live k 0 x lt ∙ at in
      subst (next.IsIdle s) there (seen k (omega (arith, lt, all)) (omega (arith, le, there)))

  pub first_seen : (live : List ℕ) (i e : ℕ) → live ≡ s.live → IsRising live → i < length live
      → e ≡ get_or live i e → from ≤ e
      → ¬ next.IsIdle s e → SeenIdle live i → IsFirstFrom s from e
  first_seen live i e is up lt at le busy seen = record {
    live = subst (λ (l : List ℕ). Contains l e) is (i, lt, sym at);
    reached = le;
    busy = busy;
    lowest = lowest;
  } where
    lowest : (x : ℕ) → Contains s.live x → from ≤ x → x < e → next.IsIdle s x
    lowest x among reached less =
        let (k, within, place) = subst (λ (l : List ℕ). Contains l x) (sym is) among in
        let there : get_or live k 0 ≡ x = get_or_default live k 0 x within ∙ place in
        let here : get_or live i 0 ≡ e = get_or_default live i 0 e lt ∙ sym at in
        elim (below_or_not k i) [
          | inl before ↦ subst (next.IsIdle s) there (seen k before (omega (arith, reached, there)))
          | inr after ↦ elim (same_or_not k i) [
            | inl same ↦ (let is : get_or live k 0 ≡ get_or live i 0 = ap (λ (n : ℕ). get_or live n 0) same in
                absurd (omega (arith, is, there, here, less)))
            | inr ne ↦ (let rises = up i k 0 (omega (arith, after, ne)) within in
                absurd (omega (arith, rises, there, here, less)))
          ]
        ]

pub next_some : (s : StateData) (last : ℕ) (o : Option ℕ) → AreIdleFrom s (last + 1) → IfSome o (IsFirstFrom s 0)
    → IfSome o (IsNext s last)
next_some s last None idle h = h
next_some s last (Some e) idle h = next_below s last e idle h

-- where no work is left, no letter and no job stands
module _ (left : Token → ℕ) (s : StateData) (stands : Standing s) (w : IsWork left s 0) where
  never : {A : Type 0} {P : A → Type 0} (n : ℕ) → Counts P n → n ≡ 0 → (x : A) → ¬ P x
  never n c is x p = let (k, lt, at) = (c.each x).1 p in let e = c.count in omega (arith, lt, e, is)

  no_letter : (n : ℕ) (o : Option Letter) → letter_at s.letters n ≡ o → letter_at s.letters n ≡ None
  no_letter n None is = is
  no_letter n (Some l) is = let sum = w.sum in
      absurd (never w.letters w.letters_are (omega (arith, sum)) n (record { letter = l; at = is }))

  none_at : (e : ℕ) (stage : Stage) → ¬ IsAt stage s e
  none_at e Taken k = let sum = w.sum in never w.taken w.taken_are (omega (arith, sum)) e k
  none_at e Asking k = let sum = w.sum in never w.asking w.asking_are (omega (arith, sum)) e k
  none_at e Ending k = let sum = w.sum in never w.ending w.ending_are (omega (arith, sum)) e k
  none_at e Polling k =
      let row = stands.shape.jobs.under_way e k.job k.its (subst IsUnderWay (sym k.stage_is) polls) in
      let sum = w.sum in
      never w.polls w.polls_are (omega (arith, sum)) (e, 0)
      (record { at = k; row = row.row; found = row.found; below = omega arith })

  no_job : (e : ℕ) (o : Option Job) → job_at s.jobs e ≡ o → job_at s.jobs e ≡ None
  no_job e None is = is
  no_job e (Some j) is = elim (member_or_not same_or_not s.live e) [
    | inl live ↦ absurd (none_at e j.stage (record { job = j; its = is; live = live; stage_is = refl }))
    | inr stopped ↦ (let sum = w.sum in
        absurd (never w.stopped w.stopped_are (omega (arith, sum)) e (record { job = j; its = is; stopped = stopped })))
  ]

  pub no_work_idle : IsIdle s
  no_work_idle = silent_book s (λ n. no_letter n (letter_at s.letters n) refl) (λ e. no_job e (job_at s.jobs e) refl)
