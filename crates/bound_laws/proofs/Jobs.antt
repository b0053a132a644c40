-- What stands for jobs, where one engine's job begins, goes on or ends.
use Rattle.std.proofs.Common.{◌≡◌, ◌≢◌, inl, inr, ◌<◌, ◌≤◌, ℕ, zero, suc, ◌+◌, List, [], ◌∷◌, length, refl, sym}
use Rattle.std.proofs.Common.{Option, Some, None, ap, subst, ◌∙◌, arith}
use Rattle.std.specs.Prelude.{Contains}
use Rattle.heat_plan.specs.declared.token.Token.{Token}
use Rattle.row_table.specs.Rows.{row_at}
use Rattle.row_table.specs.declared.row.Row.{Row}
use Rattle.mail_table.specs.Mails.{job_at}
use Rattle.mail_table.specs.declared.mail.Job.{Job}
use Rattle.mail_table.specs.declared.mail.Stage.{Stage}
use Rattle.mail_table.specs.declared.mail.Stage.TheVariants.{Polling}
use Rattle.core_state.specs.State.{StateData}
use Rattle.step_relation.specs.Rows.{token_of}
use Rattle.step_relation.specs.Linked.{Links}
use Rattle.history_laws.proofs.tables.Rows.{same_or_not, same_some, text_or_not}
use Rattle.next_laws.proofs.Listings.{cons_cases, in_head, in_tail, no_member}
use Rattle.next_laws.proofs.Decide.{Decided}
use Rattle.bound_laws.specs.Bound.{IsWork}
use Rattle.bound_laws.specs.Counts.{Counts}
use Rattle.bound_laws.specs.Rolls.{RollJob}
use Rattle.bound_laws.specs.Work.{IsAt, IsLate, IsLeft, IsPoll}
use Rattle.bound_laws.proofs.Sets.{at_most, fewer, one_more, some_fewer, some_more}
use Rattle.bound_laws.proofs.Still.{Eases}

-- the jobs of all engines but one were there, and the live engines are the same
pub record JobsWere (s t : StateData) (e : ℕ) : Type 0 where
  pub else_ : (f : ℕ) (k : Job) → job_at t.jobs f ≡ Some k → f ≢ e → job_at s.jobs f ≡ Some k
  pub live : (f : ℕ) → Contains t.live f → Contains s.live f
  pub alive : (f : ℕ) → Contains s.live f → Contains t.live f

-- rows of numbers that were drawn were there, with their tokens
pub record RowsWere (s t : StateData) : Type 0 where
  pub were : (n : ℕ) (r : Row) → row_at t.rows n ≡ Some r → n < s.next.row → (o : Row) × (row_at s.rows n ≡ Some o)
      × (token_of r ≡ token_of o)

module _ (before after : Token → ℕ) (s t : StateData) (e : ℕ) (jobs : JobsWere s t e) where
  -- the jobs of the others stand for as much
  pub at_was : (stage : Stage) (f : ℕ) → f ≢ e → IsAt stage t f → IsAt stage s f
  at_was stage f ne x = record {
    job = x.job;
    its = jobs.else_ f x.job x.its ne;
    live = jobs.live f x.live;
    stage_is = x.stage_is;
  }

  pub left_was : (f : ℕ) → f ≢ e → IsLeft t f → IsLeft s f
  left_was f ne x = record {
    job = x.job;
    its = jobs.else_ f x.job x.its ne;
    stopped = λ live. x.stopped (jobs.alive f live);
  }

  module _ (n m : ℕ) (a : IsWork before s n) (b : IsWork after t m) where
    -- at a stage: no more, one fewer, one more at most
    pub at_falls : (stage : Stage) (x y : ℕ) → Counts (IsAt stage s) x → Counts (IsAt stage t) y
        → (IsAt stage t e → IsAt stage s e) → y ≤ x
    at_falls stage x y p q own = at_most q p (λ f z. elim (same_or_not f e) [
      | inl is ↦ subst (IsAt stage s) (sym is) (own (subst (IsAt stage t) is z))
      | inr ne ↦ at_was stage f ne z
    ])

    pub at_goes : (stage : Stage) (x y : ℕ) → Counts (IsAt stage s) x → Counts (IsAt stage t) y → IsAt stage s e
        → ¬ IsAt stage t e → y + 1 ≤ x
    at_goes stage x y p q has hasnt = fewer q p (λ f z. elim (same_or_not f e) [
      | inl is ↦ absurd (hasnt (subst (IsAt stage t) is z))
      | inr ne ↦ at_was stage f ne z
    ]) e has hasnt

    pub at_comes : (stage : Stage) (x y : ℕ) → Counts (IsAt stage s) x → Counts (IsAt stage t) y → y ≤ x + 1
    at_comes stage x y p q = one_more q p e
        (λ f z. elim (same_or_not f e) [ inl is ↦ inr is | inr ne ↦ inl (at_was stage f ne z) ])

    pub left_falls : (IsLeft t e → IsLeft s e) → b.stopped ≤ a.stopped
    left_falls own = at_most b.stopped_are a.stopped_are (λ f z. elim (same_or_not f e) [
      | inl is ↦ subst (IsLeft s) (sym is) (own (subst (IsLeft t) is z))
      | inr ne ↦ left_was f ne z
    ])

    pub left_goes : IsLeft s e → ¬ IsLeft t e → b.stopped + 1 ≤ a.stopped
    left_goes has hasnt = fewer b.stopped_are a.stopped_are (λ f z. elim (same_or_not f e) [
      | inl is ↦ absurd (hasnt (subst (IsLeft t) is z))
      | inr ne ↦ left_was f ne z
    ]) e has hasnt

    -- polls: those of the others stay or fall
    module _ (links : Links s) (rows : RowsWere s t)
        (own : (f : ℕ) (k : Job) (o : Row) → f ≢ e → job_at s.jobs f ≡ Some k → row_at s.rows k.row ≡ Some o
        → after (token_of o) ≤ before (token_of o)) where
      poll_was : (x : ℕ × ℕ) → x.0 ≢ e → IsPoll after t x → IsPoll before s x
      unfolding at_was
      poll_was x ne p =
          let k = at_was Polling x.0 ne p.at in
          let lt = (links.numbered.jobs x.0 k.job k.its).its_row in
          let (o, found, token) = rows.were k.job.row p.row p.found lt in
          let le = own x.0 k.job o ne k.its found in record {
            at = k;
            row = o;
            found = found;
            below = (let e' : after (token_of p.row) ≡ after (token_of o) = ap after token in let lt' = p.below in
                omega (arith, le, e', lt'));
          }

      pub polls_fall : ((i : ℕ) → IsPoll after t (e, i) → IsPoll before s (e, i)) → b.polls ≤ a.polls
      polls_fall mine = at_most b.polls_are a.polls_are (λ x p. elim (same_or_not x.0 e) [
        | inl is ↦ subst (IsPoll before s) (sym (paired x is)) (mine x.1 (subst (IsPoll after t) (paired x is) p))
        | inr ne ↦ poll_was x ne p
      ])
        where
          paired : (x : ℕ × ℕ) → x.0 ≡ e → x ≡ (e, x.1)
          paired x is = let y : (x.0, x.1) ≡ (e, x.1) = ap (λ (f : ℕ). (f, x.1)) is in y

      pub poll_goes : (i : ℕ) → ((k : ℕ) → IsPoll after t (e, k) → IsPoll before s (e, k)) → IsPoll before s (e, i)
          → ¬ IsPoll after t (e, i) → b.polls + 1 ≤ a.polls
      poll_goes i mine has hasnt = fewer b.polls_are a.polls_are (λ x p. elim (same_or_not x.0 e) [
        | inl is ↦ subst (IsPoll before s) (sym (paired x is)) (mine x.1 (subst (IsPoll after t) (paired x is) p))
        | inr ne ↦ poll_was x ne p
      ]) (e, i) has hasnt
        where
          paired : (x : ℕ × ℕ) → x.0 ≡ e → x ≡ (e, x.1)
          paired x is = let y : (x.0, x.1) ≡ (e, x.1) = ap (λ (f : ℕ). (f, x.1)) is in y

      -- all of its own go, and there were two at least
      pub two_polls_go : ((k : ℕ) → ¬ IsPoll after t (e, k)) → IsPoll before s (e, 0) → IsPoll before s (e, 1)
          → b.polls + 2 ≤ a.polls
      two_polls_go hasnt first second = some_fewer b.polls_are a.polls_are ((e, 0) ∷ (e, 1) ∷ []) (
        (λ c. elim (cons_cases [] (e, 1) (e, 0) c) [ inl is ↦ apart is | inr later ↦ no_member (e, 0) later ]),
        ((λ c. no_member (e, 1) c), tt),
      )
          (λ x p. elim (same_or_not x.0 e) [
            | inl is ↦ absurd (hasnt x.1 (subst (IsPoll after t) (paired x is) p))
            | inr ne ↦ poll_was x ne p
          ])
          (λ x c. elim (cons_cases ((e, 1) ∷ []) (e, 0) x c) [
            | inl is ↦ (subst (IsPoll before s) (sym is) first, λ p. hasnt 0 (subst (IsPoll after t) is p))
            | inr later ↦ elim (cons_cases [] (e, 1) x later) [
              | inl is ↦ (subst (IsPoll before s) (sym is) second, λ p. hasnt 1 (subst (IsPoll after t) is p))
              | inr none ↦ absurd (no_member x none)
            ]
          ])
        where
          paired : (x : ℕ × ℕ) → x.0 ≡ e → x ≡ (e, x.1)
          paired x is = let y : (x.0, x.1) ≡ (e, x.1) = ap (λ (f : ℕ). (f, x.1)) is in y

          apart : ◌≡◌ {A = ℕ × ℕ} (e, 0) (e, 1) → ⊥
          apart is = let same : 0 ≡ 1 = ap (λ (x : ℕ × ℕ). x.1) is in omega (arith, same)

      -- its own come, so many at most
      abbrev upto : (count : ℕ) → List (ℕ × ℕ)
      upto zero = []
      upto (suc count) = (e, count) ∷ upto count

      upto_length : (count : ℕ) → length (upto count) ≡ count
      upto_length zero = refl
      upto_length (suc count) = ap suc (upto_length count)

      in_upto : (count i : ℕ) → i < count → Contains (upto count) (e, i)
      in_upto zero i lt = absurd (omega (arith, lt))
      in_upto (suc count) i lt = elim (same_or_not i count) [
        | inl is ↦ subst (λ (k : ℕ). Contains ((e, count) ∷ upto count) (e, k)) (sym is)
            (in_head (upto count) (e, count))
        | inr ne ↦ in_tail (upto count) (e, count) (e, i) (in_upto count i (omega (arith, lt, ne)))
      ]

      pub polls_come : ((tok : Token) → after tok ≤ 64) → b.polls ≤ a.polls + 66
      polls_come few =
          let le = some_more b.polls_are a.polls_are (upto 66) (λ x p. elim (same_or_not x.0 e) [
            | inl is ↦ inr (subst (Contains (upto 66)) (sym (paired x is))
                (in_upto 66 x.1 (let lt = p.below in let le = few (token_of p.row) in omega (arith, lt, le))))
            | inr ne ↦ inl (poll_was x ne p)
          ]) in let l = upto_length 66 in omega (arith, le, l)
        where
          paired : (x : ℕ × ℕ) → x.0 ≡ e → x ≡ (e, x.1)
          paired x is = let y : (x.0, x.1) ≡ (e, x.1) = ap (λ (f : ℕ). (f, x.1)) is in y

module _ (before after : Token → ℕ) (s t : StateData) (ease : Eases s t) (e : ℕ) (jobs : JobsWere s t e) where
  -- so do those that are late, and those that may roll
  pub late_was : (f : ℕ) → f ≢ e → IsLate t f → IsLate s f
  late_was f ne x = record {
    job = x.job;
    its = jobs.else_ f x.job x.its ne;
    live = jobs.live f x.live;
    stale = ease.late f x.job x.its (jobs.else_ f x.job x.its ne) x.stale;
  }

  pub roll_was : (f : ℕ) → f ≢ e → RollJob t f → RollJob s f
  roll_was f ne x = record {
    job = x.job;
    its = jobs.else_ f x.job x.its ne;
    stack = x.stack;
    may = ease.may x.job.letter.stack x.stack x.may;
  }

  module _ (n m : ℕ) (a : IsWork before s n) (b : IsWork after t m) where
    pub late_falls : (IsLate t e → IsLate s e) → b.late ≤ a.late
    late_falls own = at_most b.late_are a.late_are (λ f z. elim (same_or_not f e) [
      | inl is ↦ subst (IsLate s) (sym is) (own (subst (IsLate t) is z))
      | inr ne ↦ late_was f ne z
    ])

    pub late_goes : IsLate s e → ¬ IsLate t e → b.late + 1 ≤ a.late
    late_goes has hasnt = fewer b.late_are a.late_are (λ f z. elim (same_or_not f e) [
      | inl is ↦ absurd (hasnt (subst (IsLate t) is z))
      | inr ne ↦ late_was f ne z
    ]) e has hasnt

    pub roll_falls : (RollJob t e → RollJob s e) → b.rolls_are.jobs ≤ a.rolls_are.jobs
    roll_falls own = at_most b.rolls_are.jobs_are a.rolls_are.jobs_are (λ f z. elim (same_or_not f e) [
      | inl is ↦ subst (RollJob s) (sym is) (own (subst (RollJob t) is z))
      | inr ne ↦ roll_was f ne z
    ])

    pub roll_goes : RollJob s e → ¬ RollJob t e → b.rolls_are.jobs + 1 ≤ a.rolls_are.jobs
    roll_goes has hasnt = fewer b.rolls_are.jobs_are a.rolls_are.jobs_are (λ f z. elim (same_or_not f e) [
      | inl is ↦ absurd (hasnt (subst (RollJob t) is z))
      | inr ne ↦ roll_was f ne z
    ]) e has hasnt

    pub roll_comes : b.rolls_are.jobs ≤ a.rolls_are.jobs + 1
    roll_comes = one_more b.rolls_are.jobs_are a.rolls_are.jobs_are e
        (λ f z. elim (same_or_not f e) [ inl is ↦ inr is | inr ne ↦ inl (roll_was f ne z) ])

-- the engine's job is on this stack
unfoldable pub IsOn : StateData → List ℕ → ℕ → Type 0
IsOn s own f = (k : Job) × (job_at s.jobs f ≡ Some k) × (k.letter.stack ≡ own)

pub on_or_not : (s : StateData) (own : List ℕ) (f : ℕ) → Decided (IsOn s own f)
unfolding IsOn
on_or_not s own f = by (job_at s.jobs f) refl where
  by : (o : Option Job) → job_at s.jobs f ≡ o → Decided (IsOn s own f)
  by None none = inr (λ x. let at = x.1 in cc)
  by (Some k) at = elim (text_or_not k.letter.stack own) [
    | inl is ↦ inl (k, at, is)
    | inr not ↦ inr (λ x. not (ap (λ (y : Job). y.letter.stack) (same_some k x.0 at x.1) ∙ x.2))
  ]
