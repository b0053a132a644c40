-- The moves by kind, each with what it lowers: a job that goes on, ends, begins or is taken over.
use Rattle.std.proofs.Common.{◌≡◌, ◌≢◌, inl, inr, ◌<◌, ◌≤◌, ℕ, ◌+◌, List, Some, None, refl, sym, ap, subst, ◌∙◌, arith}
use Rattle.std.specs.Prelude.{Contains}
use Rattle.heat_plan.specs.declared.token.Token.{Token}
use Rattle.mail_table.specs.Mails.{cut_job, cut_letter, job_at, letter_at, put_job, put_letter}
use Rattle.mail_table.specs.declared.mail.Job.{Job}
use Rattle.mail_table.specs.declared.mail.Letter.{Letter}
use Rattle.mail_table.specs.declared.mail.Stage.{Stage}
use Rattle.mail_table.specs.declared.mail.Stage.TheVariants.{Asking, Ending, Polling, Taken}
use Rattle.core_state.specs.State.{StateData}
use Rattle.core_state.specs.declared.stack.Stack.{Stack}
use Rattle.step_relation.specs.Given.{Given}
use Rattle.step_relation.specs.Rows.{token_of}
use Rattle.step_relation.specs.MailFits.{IsStale}
use Rattle.step_relation.specs.Sound.{Standing}
use Rattle.history_laws.proofs.tables.Rows.{letter_cut}
use Rattle.bound_laws.specs.Bound.{IsWork}
use Rattle.bound_laws.specs.Rolls.{MayRoll}
use Rattle.bound_laws.specs.Work.{IsAt}
use Rattle.bound_laws.proofs.Falls.{PollsFall}
use Rattle.bound_laws.proofs.Forms.{RowForm, all_work, form_were, is_all, jobs_cut, jobs_put, jobs_same, may_or_not}
use Rattle.bound_laws.proofs.Forms.{own_gone, own_is}
use Rattle.bound_laws.proofs.Jobs.{JobsWere, at_comes, at_falls, late_falls, left_falls, left_goes, polls_fall}
use Rattle.bound_laws.proofs.Jobs.{roll_comes, roll_falls, roll_goes}
use Rattle.bound_laws.proofs.Own.{ends_late, ends_left, ends_roll, ends_rolling, ends_stale, ends_sum, free_polls}
use Rattle.bound_laws.proofs.Own.{goes_late, goes_left, goes_roll, job_sum, other_polls, stage_sum}
use Rattle.bound_laws.proofs.Rows.{far_falls, rows_fall}
use Rattle.bound_laws.proofs.Still.{Still, eases_of, letter_comes, letter_goes, letters_fall, may_was, nodes_fall}
use Rattle.bound_laws.proofs.Still.{roll_items_fall, roll_letter_beside, roll_letter_comes, roll_letter_goes}
use Rattle.bound_laws.proofs.Still.{roll_letters_fall, roll_nodes_fall, stale_was}

-- the letters that a release sends: none, or one to its stack
pub data SendsOne (s t : StateData) (own : List ℕ) : Type 0 where
  sends_none : t.letters ≡ s.letters → SendsOne s t own
  sends_one : (l : Letter) → l.stack ≡ own → t.letters ≡ put_letter l s.letters → SendsOne s t own

module _ (before after : Token → ℕ) (s t : StateData) (e : ℕ) (given : Given) (falls : PollsFall before after s e given)
    (hs : Standing s) (ht : Standing t)
    (n m : ℕ) (a : IsWork before s n) (b : IsWork after t m) (still : Still s t) where
  lower : all_work after t m b + 1 ≤ all_work before s n a → m < n
  lower le = let x = is_all before s n a in let y = is_all after t m b in omega (arith, le, x, y)

  -- letters as they are
  same_letters : t.letters ≡ s.letters → (i : ℕ) (l : Letter) → letter_at t.letters i ≡ Some l
      → letter_at s.letters i ≡ Some l
  same_letters is i l at = subst (λ (ls : List Letter). letter_at ls i ≡ Some l) is at

  -- what else falls where rows are as before, but one
  record Rest : Type 0 where
    pub nodes : b.nodes ≤ a.nodes
    pub roll_nodes : b.rolls_are.nodes ≤ a.rolls_are.nodes
    pub roll_items : b.rolls_are.items ≤ a.rolls_are.items
    pub roll_rows : b.rolls_are.rows ≤ a.rolls_are.rows
    pub roll_far : b.rolls_are.far ≤ a.rolls_are.far

  rest_of : RowForm s t → Rest
  rest_of f = record {
    nodes = nodes_fall before after s t still n m a b;
    roll_nodes = roll_nodes_fall before after s t still n m a b;
    roll_items = roll_items_fall before after s t still n m a b;
    roll_rows = rows_fall before after s t (eases_of s t still) n m a b f.full;
    roll_far = far_falls before after s t (eases_of s t still) hs ht f.near n m a b;
  }

  -- a job goes on
  pub goes_on : (form : RowForm s t) (j k : Job) → job_at s.jobs e ≡ Some j → Contains s.live e → k.engine ≡ e
      → k.letter ≡ j.letter → t.live ≡ s.live
      → t.jobs ≡ put_job k s.jobs → t.letters ≡ s.letters → job_sum after t m b + 1 ≤ job_sum before s n a → m < n
  goes_on form j k its live own letter lives jobs letters sum =
      let were = jobs_put s t lives e k own jobs in
      let others = other_polls before after s e given hs falls in
      let is = own_is t s.jobs e k own jobs in
      let r = rest_of form in
      let l1 = letters_fall before after s t still n m a b (same_letters letters) in
      let l2 = roll_letters_fall before after s t still n m a b (same_letters letters) in
      let x1 = goes_left before after s t hs (eases_of s t still) e were
      (form_were s t form) others n m a b j its live k is letter in
      let x2 = goes_late before after s t hs (eases_of s t still) e were
      (form_were s t form) others n m a b j its live k is letter still in
      let x3 = goes_roll before after s t hs (eases_of s t still) e were
      (form_were s t form) others n m a b j its live k is letter in
      let r1 = r.nodes in let r2 = r.roll_nodes in let r3 = r.roll_items in let r4 = r.roll_rows in
      let r5 = r.roll_far in
      lower (omega (arith, sum, l1, l2, x1, x2, x3, r1, r2, r3, r4, r5))

  -- a job ends, and no letter comes
  pub ends : (form : RowForm s t) (j : Job) → job_at s.jobs e ≡ Some j → Contains s.live e → t.live ≡ s.live
      → t.jobs ≡ cut_job e s.jobs → t.letters ≡ s.letters → m < n
  ends form j its live lives jobs letters =
      let were = jobs_cut s t lives e jobs in
      let others = other_polls before after s e given hs falls in
      let gone = own_gone s t e jobs in
      let r = rest_of form in
      let l1 = letters_fall before after s t still n m a b (same_letters letters) in
      let l2 = roll_letters_fall before after s t still n m a b (same_letters letters) in
      let x0 = ends_sum before after s t hs e were (form_were s t form) others n m a b j its live gone j.stage refl in
      let x1 = ends_left before after s t hs (eases_of s t still) e were
      (form_were s t form) others n m a b j its live gone in
      let x2 = ends_late before after s t hs (eases_of s t still) e were
      (form_were s t form) others n m a b j its live gone in
      let x3 = ends_roll before after s t hs (eases_of s t still) e were
      (form_were s t form) others n m a b j its gone in
      let r1 = r.nodes in let r2 = r.roll_nodes in let r3 = r.roll_items in let r4 = r.roll_rows in
      let r5 = r.roll_far in
      let some = some_sum j.stage in
      lower (omega (arith, x0, some, l1, l2, x1, x2, x3, r1, r2, r3, r4, r5))
    where
      some_sum : (x : Stage) → 1 ≤ stage_sum x
      some_sum Taken = omega arith
      some_sum Asking = omega arith
      some_sum Polling = omega arith
      some_sum Ending = omega arith

  -- letters of a release, and jobs that roll
  shift : (own : List ℕ) → SendsOne s t own → ((st : Stack) → MayRoll s own st
      → b.rolls_are.jobs + 1 ≤ a.rolls_are.jobs) → b.rolls_are.jobs ≤ a.rolls_are.jobs
      → (b.letters ≤ a.letters + 1) × (b.rolls_are.letters + b.rolls_are.jobs ≤ a.rolls_are.letters + a.rolls_are.jobs)
  shift own (sends_none is) rolling falls_ =
      let l1 = letters_fall before after s t still n m a b (same_letters is) in
      let l2 = roll_letters_fall before after s t still n m a b (same_letters is) in
      (omega (arith, l1), omega (arith, l2, falls_))
  shift own (sends_one l to is) rolling falls_ = let l1 = letter_comes before after s t still n m a b l is in
      elim (may_or_not s own) [
        | inl may ↦ (let l2 = roll_letter_comes before after s t still n m a b l is in let r = rolling may.0 may.1 in
            (omega (arith, l1), omega (arith, l2, r)))
        | inr never ↦ (let l2 = roll_letter_beside before after s t still n m a b l is
            (λ st k. never st (subst (λ (name : List ℕ). MayRoll s name st) to k)) in
            (omega (arith, l1), omega (arith, l2, falls_)))
      ]

  -- a stale job of its own is released
  pub releases : (form : RowForm s t) (j : Job) → job_at s.jobs e ≡ Some j → Contains s.live e → t.live ≡ s.live
      → t.jobs ≡ cut_job e s.jobs
      → IsStale s.stacks j.letter → SendsOne s t j.letter.stack → m < n
  releases form j its live lives jobs old sends =
      let were = jobs_cut s t lives e jobs in
      let others = other_polls before after s e given hs falls in
      let gone = own_gone s t e jobs in
      let r = rest_of form in
      let x0 = ends_sum before after s t hs e were (form_were s t form) others n m a b j its live gone j.stage refl in
      let x1 = ends_left before after s t hs (eases_of s t still) e were
      (form_were s t form) others n m a b j its live gone in
      let x2 = ends_stale before after s t hs (eases_of s t still) e were
      (form_were s t form) others n m a b j its live gone old in
      let x3 = ends_roll before after s t hs (eases_of s t still) e were
      (form_were s t form) others n m a b j its gone in
      let both = shift j.letter.stack sends (λ st may. ends_rolling before after s t hs (eases_of s t still) e were
      (form_were s t form) others n m a b j its gone st may) x3 in
      let l1 = both.0 in let l2 = both.1 in
      let r1 = r.nodes in let r2 = r.roll_nodes in let r3 = r.roll_items in let r4 = r.roll_rows in
      let r5 = r.roll_far in
      let some = some_sum j.stage in
      lower (omega (arith, x0, some, l1, l2, x1, x2, r1, r2, r3, r4, r5))
    where
      some_sum : (x : Stage) → 1 ≤ stage_sum x
      some_sum Taken = omega arith
      some_sum Asking = omega arith
      some_sum Polling = omega arith
      some_sum Ending = omega arith

  -- a stopped engine's job is taken over
  pub takes_over : (form : RowForm s t) (f : ℕ) (j : Job) → job_at s.jobs e ≡ None → job_at s.jobs f ≡ Some j
      → ¬ Contains s.live f → t.live ≡ s.live
      → t.jobs ≡ cut_job f s.jobs → SendsOne s t j.letter.stack → m < n
  takes_over form f j none its stopped lives jobs sends =
      let were = jobs_cut s t lives f jobs in
      let gone = own_gone s t f jobs in
      let others = free_polls before after s e given none falls in
      let r = rest_of form in
      let y1 = at_falls before after s t f were n m a b Taken _ _ a.taken_are b.taken_are
      (λ x. absurd (gone x.job x.its)) in
      let y2 = at_falls before after s t f were n m a b Asking _ _ a.asking_are b.asking_are
      (λ x. absurd (gone x.job x.its)) in
      let y3 = at_falls before after s t f were n m a b Ending _ _ a.ending_are b.ending_are
      (λ x. absurd (gone x.job x.its)) in
      let y4 = polls_fall before after s t f were n m a b hs.links (form_were s t form)
      (λ g k o ne at found. others (token_of o)) (λ i p. absurd (gone p.at.job p.at.its)) in
      let x1 = left_goes before after s t f were n m a b (record { job = j; its = its; stopped = stopped })
      (λ x. gone x.job x.its) in
      let x2 = late_falls before after s t (eases_of s t still) f were n m a b (λ x. absurd (gone x.job x.its)) in
      let x3 = roll_falls before after s t (eases_of s t still) f were n m a b (λ x. absurd (gone x.job x.its)) in
      let both = shift j.letter.stack sends (λ st may. roll_goes before after s t (eases_of s t still) f were n m a b
      (record { job = j; its = its; stack = st; may = may }) (λ x. gone x.job x.its)) x3 in
      let l1 = both.0 in let l2 = both.1 in
      let r1 = r.nodes in let r2 = r.roll_nodes in let r3 = r.roll_items in let r4 = r.roll_rows in
      let r5 = r.roll_far in
      lower (omega (arith, y1, y2, y3, y4, l1, l2, x1, x2, r1, r2, r3, r4, r5))

  -- a letter goes that nobody works for
  pub drops : (l : Letter) → letter_at s.letters l.no ≡ Some l → job_at s.jobs e ≡ None → (form : RowForm s t)
      → t.live ≡ s.live → t.jobs ≡ s.jobs
      → t.letters ≡ cut_letter l.no s.letters → m < n
  drops l at none form lives jobs letters =
      let were = jobs_same s t lives e jobs in
      let others = free_polls before after s e given none falls in
      let no_job : (k : Job) → ¬ job_at t.jobs e ≡ Some k =
      λ k its. none_some k none (subst (λ (x : List Job). job_at x e ≡ Some k) jobs its) in
      let r = rest_of form in
      let y1 = at_falls before after s t e were n m a b Taken _ _ a.taken_are b.taken_are
      (λ x. absurd (no_job x.job x.its)) in
      let y2 = at_falls before after s t e were n m a b Asking _ _ a.asking_are b.asking_are
      (λ x. absurd (no_job x.job x.its)) in
      let y3 = at_falls before after s t e were n m a b Ending _ _ a.ending_are b.ending_are
      (λ x. absurd (no_job x.job x.its)) in
      let y4 = polls_fall before after s t e were n m a b hs.links (form_were s t form)
      (λ g k o ne at_ found. others (token_of o)) (λ i p. absurd (no_job p.at.job p.at.its)) in
      let x1 = left_falls before after s t e were n m a b (λ x. absurd (no_job x.job x.its)) in
      let x2 = late_falls before after s t (eases_of s t still) e were n m a b (λ x. absurd (no_job x.job x.its)) in
      let x3 = roll_falls before after s t (eases_of s t still) e were n m a b (λ x. absurd (no_job x.job x.its)) in
      let l1 = letter_goes before after s t still n m a b l at letters in
      let l2 = roll_letters_fall before after s t still n m a b (λ i x found.
      (letter_cut l.no s.letters (subst (λ (ls : List Letter). letter_at ls i ≡ Some x) letters found)).1) in
      let r1 = r.nodes in let r2 = r.roll_nodes in let r3 = r.roll_items in let r4 = r.roll_rows in
      let r5 = r.roll_far in
      lower (omega (arith, y1, y2, y3, y4, x1, x2, x3, l1, l2, r1, r2, r3, r4, r5))
    where
      none_some : (k : Job) → job_at s.jobs e ≡ None → job_at s.jobs e ≡ Some k → ⊥
      none_some k x y = cc

  -- a letter is taken, and its job begins
  module _ (l : Letter) (at : letter_at s.letters l.no ≡ Some l) (none : job_at s.jobs e ≡ None)
      (live : Contains s.live e) (form : RowForm s t)
      (lives : t.live ≡ s.live) (letters : t.letters ≡ cut_letter l.no s.letters) (j : Job) (own : j.engine ≡ e)
      (stage : j.stage ≡ Taken) (letter : j.letter ≡ l)
      (st : Stack) (newest : l.trav ≡ st.trav) (table : (x : Stack) → MayRoll s l.stack x → x ≡ st)
      (fresh : ¬ IsStale s.stacks l)
      (were : JobsWere s t e) (is : (q : Job) → job_at t.jobs e ≡ Some q → q ≡ j) where
    at_taken : (other : Stage) → IsAt other t e → Taken ≡ other
    at_taken other x = sym stage ∙ (ap (λ (q : Job). q.stage) (sym (is x.job x.its)) ∙ x.stage_is)

    its_letter : (q : Job) → job_at t.jobs e ≡ Some q → q.letter ≡ l
    its_letter q found = ap (λ (k : Job). k.letter) (is q found) ∙ letter

    rolls : b.rolls_are.letters + b.rolls_are.jobs ≤ a.rolls_are.letters + a.rolls_are.jobs
    rolls = elim (may_or_not s l.stack) [
      | inl may ↦ (let l2 = roll_letter_goes before after s t still n m a b l at letters may.0 may.1
          (newest ∙ ap (λ (x : Stack). x.trav) (sym (table may.0 may.1))) in
          let x3 = roll_comes before after s t (eases_of s t still) e were n m a b in omega (arith, l2, x3))
      | inr never ↦ (let l2 = roll_letters_fall before after s t still n m a b (λ i x found.
          (letter_cut l.no s.letters (subst (λ (ls : List Letter). letter_at ls i ≡ Some x) letters found)).1) in
          let x3 = roll_falls before after s t (eases_of s t still) e were n m a b (λ x. absurd (never x.stack
          (subst (λ (k : Letter). MayRoll s k.stack x.stack) (its_letter x.job x.its)
          (may_was s t still x.job.letter.stack x.stack x.may)))) in
          omega (arith, l2, x3))
    ]

    take_sum : job_sum after t m b ≤ job_sum before s n a + 68
    take_sum =
        let others = free_polls before after s e given none falls in
        let y1 = at_comes before after s t e were n m a b Taken _ _ a.taken_are b.taken_are in
        let y2 = at_falls before after s t e were n m a b Asking _ _ a.asking_are b.asking_are
        (λ x. absurd (taken_not Asking (at_taken Asking x) (λ r. cc))) in
        let y3 = at_falls before after s t e were n m a b Ending _ _ a.ending_are b.ending_are
        (λ x. absurd (taken_not Ending (at_taken Ending x) (λ r. cc))) in
        let y4 = polls_fall before after s t e were n m a b hs.links (form_were s t form)
        (λ g k o ne at_ found. others (token_of o))
        (λ i p. absurd (taken_not Polling (at_taken Polling p.at) (λ r. cc))) in
        omega (arith, y1, y2, y3, y4)
      where
        taken_not : (x : Stage) → Taken ≡ x → Taken ≢ x → ⊥
        taken_not x is' ne = ne is'

    late_taken : b.late ≤ a.late
    late_taken = late_falls before after s t (eases_of s t still) e were n m a b (λ x.
        absurd (fresh (subst (IsStale s.stacks) (its_letter x.job x.its) (stale_was s t still x.job.letter x.stale))))

    pub takes : m < n
    takes =
        let r = rest_of form in
        let y = take_sum in let l2 = rolls in let x2 = late_taken in
        let x1 = left_falls before after s t e were n m a b (λ x. absurd (x.stopped (were.alive e live))) in
        let l1 = letter_goes before after s t still n m a b l at letters in
        let r1 = r.nodes in let r2 = r.roll_nodes in let r3 = r.roll_items in let r4 = r.roll_rows in
        let r5 = r.roll_far in
        lower (omega (arith, y, l1, l2, x1, x2, r1, r2, r3, r4, r5))
