-- The rows whose chains end at one, gathered from the row of the greatest number down.
use Rattle.std.proofs.Common.{◌≡◌, ◌<◌, ◌≤◌, ◌+◌, ◌-◌, inl, inr, ℕ, List, [], ◌∷◌, ◌++◌, Bor, Some, refl, sym, ap, ◌∙◌}
use Rattle.std.proofs.Common.{subst, arith, length, get_or}
use Rattle.std.specs.Prelude.{Contains, slice_get}
use Rattle.std.proofs.lemmas.Bool.{cases_lt, cases_order}
use Rattle.std.proofs.lemmas.List.{get_or-map, length-map}
use Rattle.std.proofs.lemmas.List.Elements.{Contains-append_left, Contains-push, Contains-push_cases}
use Rattle.std.proofs.lemmas.Option.{get_or_from_slice_get, slice_get_read, slice_get_within}
use Rattle.row_table.specs.Chains.{IsLast, Leads, ends, goes}
use Rattle.row_table.specs.Rows.{row_at, row_key}
use Rattle.row_table.specs.declared.row.Row.{Row}
use Rattle.step_reads.specs.Chains.{AreLeading, LeadsNext, goes_on, stays}
use Rattle.step_reads.specs.Standing.{AreFirsts, numbers_of}
use Rattle.step_reads.proofs.StandingLemmas.{shown}
use Rattle.step_reads.proofs.TargetLemmas.{leads_stands, same_some}
use Rattle.step_reads.proofs.Tables.{row-key}

-- of the rows from a place on these are the numbers of those whose chains end there
pub record LeadingFrom (rows standing : List Row) (leading : List ℕ) (left end : ℕ) : Type 0 where
  pub within : left ≤ length standing
  pub only : (n : ℕ) → Contains leading n → Leads rows n end
  pub each : (k : ℕ) (r : Row) → left ≤ k → slice_get standing k ≡ Some r → Leads rows r.no end → Contains leading r.no

pub leading_none : (rows standing : List Row) (left end : ℕ) → left ≡ length standing
    → LeadingFrom rows standing [] left end
leading_none rows standing left end e = record {
  within = omega (arith, e);
  only = λ n (k, lt, is). absurd (omega (arith, lt));
  each = λ k r from at on. (let lt : k < length standing = slice_get_within standing k r at in absurd
      (omega (arith, lt, from, e)));
}

module _ (rows standing : List Row) (firsts : AreFirsts rows standing) (end : ℕ) where
  placed : (k : ℕ) (r : Row) → slice_get standing k ≡ Some r → Contains standing r
  placed k r at = (k, slice_get_within standing k r at, get_or_from_slice_get standing k r r at)

  number_is : (k d : ℕ) (r : Row) → slice_get standing k ≡ Some r → get_or (numbers_of standing) k d ≡ r.no
  number_is k d r at = get_or-map row_key standing k r d (slice_get_within standing k r at) ∙ ap (λ (x : Row). x.no)
      (get_or_from_slice_get standing k r r at)

  -- a row of a greater number stands at a later place
  later : (j k : ℕ) (r p : Row) → slice_get standing j ≡ Some r → slice_get standing k ≡ Some p → r.no < p.no → j < k
  later j k r p at_r at_p less = elim (cases_order j k) [
    | inl same ↦ (let is : r ≡ p = same_some r p at_r (subst (λ (n : ℕ). slice_get standing n ≡ Some p) (sym same) at_p)
        in
        let no_is : r.no ≡ p.no = ap (λ (x : Row). x.no) is in absurd (omega (arith, less, no_is)))
    | inr o ↦ elim o [
      | inl low ↦ low
      | inr high ↦ (let up : get_or (numbers_of standing) k 0 < get_or (numbers_of standing) j 0 =
          firsts.rising k j 0 high (rw (length-map standing row_key) (slice_get_within standing j r at_r)) in
          let r_is : get_or (numbers_of standing) j 0 ≡ r.no = number_is j 0 r at_r in
          let p_is : get_or (numbers_of standing) k 0 ≡ p.no = number_is k 0 p at_p in
          absurd (omega (arith, up, r_is, p_is, less)))
    ]
  ]

  leads_of : (leading : List ℕ) (r : Row) → row_at rows r.no ≡ Some r
      → ((n : ℕ) → Contains leading n → Leads rows n end)
      → LeadsNext rows leading r end → Leads rows r.no end
  leads_of leading r at only (goes_on m by up c) = goes r.no m end r at by up (only m c)
  leads_of leading r at only (stays e last) = subst (Leads rows r.no) e (ends r.no r at last)

  next_of : (leading : List ℕ) (r : Row) (n t : ℕ) → Leads rows n t → row_at rows n ≡ Some r
      → ((m : ℕ) → r.replaced_by ≡ Some m → r.no < m → Leads rows m t → Contains leading m) → LeadsNext rows leading r t
  next_of leading r n t (ends _ q at last) here follow =
      stays (row-key rows n r here) (subst (IsLast rows) (same_some q r at here) last)
  next_of leading r n t (goes _ m _ q at by up on) here follow =
      let is : q ≡ r = same_some q r at here in
      let link : r.replaced_by ≡ Some m = ap (λ (x : Row). x.replaced_by) (sym is) ∙ by in
      let rises : r.no < m = subst (λ (k : ℕ). k < m) (sym (row-key rows n r here)) up in
      goes_on m link rises (follow m link rises on)

  -- the row behind was looked at before
  follows : (leading : List ℕ) (left : ℕ) (r : Row) → slice_get standing left ≡ Some r
      → LeadingFrom rows standing leading (left + 1) end
      → (m : ℕ) → r.replaced_by ≡ Some m → r.no < m → Leads rows m end → Contains leading m
  follows leading left r at h m link rises on =
      let (p, at_p) = leads_stands rows m end on in
      let key : p.no ≡ m = row-key rows m p at_p in
      let (k, lt, e) = firsts.each m p at_p in
      let there : slice_get standing k ≡ Some p = slice_get_read standing (length standing) k p refl lt (sym e) in
      let behind : left < k = later left k r p at there (subst (λ (n : ℕ). r.no < n) (sym key) rises) in
      subst (Contains leading) key
      (h.each k p (omega (arith, behind)) there (subst (λ (n : ℕ). Leads rows n end) (sym key) on))

  pub leading_more : (leading : List ℕ) (left : ℕ) (r : Row) → slice_get standing left ≡ Some r
      → LeadingFrom rows standing leading (left + 1) end
      → LeadsNext rows leading r end → LeadingFrom rows standing (leading ++ r.no ∷ []) left end
  leading_more leading left r at h next = record {
    within = omega (arith, h.within);
    only = λ n c. elim (Contains-push_cases leading r.no n c) [
      | inl was ↦ h.only n was
      | inr is ↦ subst (λ (k : ℕ). Leads rows k end) is
          (leads_of leading r (firsts.only r (placed left r at)) h.only next)
    ];
    each = λ k q from at_q on. elim (cases_lt left k) [
      | inl less ↦ Contains-append_left leading (r.no ∷ []) q.no (h.each k q (omega (arith, less)) at_q on)
      | inr le ↦ (let same : left ≡ k = omega (arith, le, from) in
          let is : r ≡ q = same_some r q at (subst (λ (n : ℕ). slice_get standing n ≡ Some q) (sym same) at_q) in
          subst (λ (x : Row). Contains (leading ++ r.no ∷ []) x.no) is (Contains-push leading r.no))
    ];
  }

  pub leading_skip : (leading : List ℕ) (left : ℕ) (r : Row) → slice_get standing left ≡ Some r
      → LeadingFrom rows standing leading (left + 1) end
      → ¬ LeadsNext rows leading r end → LeadingFrom rows standing leading left end
  leading_skip leading left r at h not = record {
    within = omega (arith, h.within);
    only = h.only;
    each = λ k q from at_q on. elim (cases_lt left k) [
      | inl less ↦ h.each k q (omega (arith, less)) at_q on
      | inr le ↦ (let same : left ≡ k = omega (arith, le, from) in
          let is : q ≡ r = same_some q r (subst (λ (n : ℕ). slice_get standing n ≡ Some q) (sym same) at_q) at in
          absurd (not (next_of leading r r.no end (subst (λ (x : Row). Leads rows x.no end) is on)
          (firsts.only r (placed left r at)) (follows leading left r at h))))
    ];
  }

  pub leading_all : (leading : List ℕ) (left : ℕ) → left ≡ 0 → LeadingFrom rows standing leading left end
      → AreLeading rows end leading
  leading_all leading left none h n = (h.only n, back) where
    back : Leads rows n end → Contains leading n
    back on =
        let (p, at_p) = leads_stands rows n end on in
        let key : p.no ≡ n = row-key rows n p at_p in
        let (k, lt, e) = firsts.each n p at_p in
        subst (Contains leading) key
        (h.each k p (omega (arith, none)) (slice_get_read standing (length standing) k p refl lt (sym e))
        (subst (λ (m : ℕ). Leads rows m end) (sym key) on))

-- the row at a place of a list of references
pub shown_at : (rows : List (Bor Row)) (i : ℕ) (r : Bor Row) → i < length rows → r ≡ get_or rows i r
    → slice_get (shown rows) i ≡ Some r.now
shown_at rows i r lt is =
    slice_get_read (shown rows) (length rows) i r.now (sym (length-map rows (λ (x : Bor Row). x.now))) lt
    (ap (λ (x : Bor Row). x.now) is ∙ sym (get_or-map (λ (x : Bor Row). x.now) rows i r r.now lt))

-- one row more, at the place before
module _ (rows : List Row) (refs : List (Bor Row)) (firsts : AreFirsts rows (shown refs)) (end left : ℕ)
    (leading : List ℕ) (r : Bor Row)
    (some : 0 < left) (is : r ≡ get_or refs (left - 1) r) (h : LeadingFrom rows (shown refs) leading left end) where
  at : slice_get (shown refs) (left - 1) ≡ Some r.now
  at = let size : length (shown refs) ≡ length refs = length-map refs (λ (x : Bor Row). x.now) in
      shown_at refs (left - 1) r (omega (arith, some, size, h.within)) is

  before : LeadingFrom rows (shown refs) leading (left - 1 + 1) end
  before = let same : left ≡ left - 1 + 1 = omega (arith, some) in
      subst (λ (n : ℕ). LeadingFrom rows (shown refs) leading n end) same h

  pub step_more : LeadsNext rows leading r.now end → LeadingFrom rows (shown refs) (leading ++ r.now.no ∷ [])
      (left - 1) end
  step_more next = leading_more rows (shown refs) firsts end leading (left - 1) r.now at before next

  pub step_skip : ¬ LeadsNext rows leading r.now end → LeadingFrom rows (shown refs) leading (left - 1) end
  step_skip not = leading_skip rows (shown refs) firsts end leading (left - 1) r.now at before not
