-- All of a kind below a bound, listed by rising number.
use Rattle.std.proofs.Common.{◌≡◌, inl, inr, ◌<◌, ◌≤◌, ℕ, zero, suc, ◌+◌, List, [], ◌∷◌, length, get_or, map, map-id}
use Rattle.std.proofs.Common.{Option, Some, None, refl, sym, ap, subst, arith}
use Rattle.std.specs.Prelude.{Contains}
use Rattle.std.proofs.lemmas.List.{get_or_default}
use Rattle.dep_graph.specs.Lists.{IsRising, ListsAll}
use Rattle.history_laws.proofs.tables.Rows.{same_or_not}
use Rattle.next_laws.proofs.Listings.{cons_cases, in_head, in_tail, no_member}
use Rattle.next_laws.proofs.Decide.{Decided}

rising-nil : IsRising []
rising-nil i j d lt inside = omega (arith, inside)

-- a lower number stands first
rising-cons : (x : ℕ) (xs : List ℕ) → ((y : ℕ) → Contains xs y → x < y) → IsRising xs → IsRising (x ∷ xs)
rising-cons x xs low up zero zero d lt inside = omega (arith, lt)
rising-cons x xs low up zero (suc j) d lt inside =
    let within : j < length xs = omega (arith, inside) in
    low (get_or xs j d) (j, within, get_or_default xs j (get_or xs j d) d within)
rising-cons x xs low up (suc i) zero d lt inside = omega (arith, lt)
rising-cons x xs low up (suc i) (suc j) d lt inside = up i j d (omega (arith, lt)) (omega (arith, inside))

module _ {A : Type 0} (key : A → ℕ) (find : ℕ → Option A) (keyed : (n : ℕ) (x : A) → find n ≡ Some x → key x ≡ n) where
  pub record Collects (low high : ℕ) (xs : List A) : Type 0 where
    pub rising : IsRising (map key xs)
    pub has : (n : ℕ) (x : A) → low ≤ n → n < high → find n ≡ Some x → Contains xs x
    pub only : (x : A) → Contains xs x → find (key x) ≡ Some x
    pub above : (x : A) → Contains xs x → low ≤ key x

  key_was : (xs : List A) (n : ℕ) → Contains (map key xs) n → (x : A) × Contains xs x × (n ≡ key x)
  key_was [] n c = absurd (no_member n c)
  key_was (y ∷ ys) n c = elim (cons_cases (map key ys) (key y) n c) [
    | inl is ↦ (y, in_head ys y, is)
    | inr later ↦ let (x, at, is) = key_was ys n later in (x, in_tail ys y x at, is)
  ]

  collect : (count low high : ℕ) → low + count ≡ high → (xs : List A) × Collects low high xs
  collect zero low high e = (
    [],
    record {
      rising = rising-nil;
      has = λ n x le lt. absurd (omega (arith, le, lt, e));
      only = λ x c. absurd (no_member x c);
      above = λ x c. absurd (no_member x c);
    },
  )
  collect (suc count) low high e = by (find low) refl (collect count (low + 1) high (omega (arith, e))) where
    by : (o : Option A) → find low ≡ o → (xs : List A) × Collects (low + 1) high xs
        → (xs : List A) × Collects low high xs
    by None is (xs, c) = (
      xs,
      record {
        rising = c.rising;
        has = λ n x le lt found. elim (same_or_not low n) [
          | inl same ↦ (let none : find n ≡ None = subst (λ (k : ℕ). find k ≡ None) same is in cc)
          | inr ne ↦ c.has n x (omega (arith, le, ne)) lt found
        ];
        only = c.only;
        above = λ x at. let h = c.above x at in omega (arith, h);
      },
    )
    by (Some y) is (xs, c) =
        let at_y : key y ≡ low = keyed low y is in (
          y ∷ xs,
          record {
            rising = rising-cons (key y) (map key xs)
                (λ n at. let (x, at_x, e) = key_was xs n at in let h = c.above x at_x in
                omega (arith, h, e, at_y)) c.rising;
            has = λ n x le lt found. elim (same_or_not low n) [
              | inl same ↦ (let found_y : find n ≡ Some y = subst (λ (k : ℕ). find k ≡ Some y) same is in
                  let same_x : y ≡ x = cc in subst (Contains (y ∷ xs)) same_x (in_head xs y))
              | inr ne ↦ in_tail xs y x (c.has n x (omega (arith, le, ne)) lt found)
            ];
            only = λ x at. elim (cons_cases xs y x at) [
              | inl same ↦ subst (λ (z : A). find (key z) ≡ Some z) (sym same)
                  (subst (λ (k : ℕ). find k ≡ Some y) (sym at_y) is)
              | inr later ↦ c.only x later
            ];
            above = λ x at. elim (cons_cases xs y x at) [
              | inl same ↦ (let e : key x ≡ key y = ap key same in omega (arith, e, at_y))
              | inr later ↦ let h = c.above x later in omega (arith, h)
            ];
          },
        )

  pub all_below : (b : ℕ) → (xs : List A) × Collects 0 b xs
  all_below b = collect b 0 b (omega arith)

-- the numbers of a kind
abbrev chosen : {P : Type 0} → Decided P → ℕ → Option ℕ
chosen (inl p) n = Some n
chosen (inr not) n = None

module _ (P : ℕ → Type 0) (d : (n : ℕ) → Decided (P n)) where
  chosen_is : (n x : ℕ) (o : Decided (P n)) → chosen o n ≡ Some x → (x ≡ n) × P n
  chosen_is n x (inl p) e = (cc, p)
  chosen_is n x (inr not) e = cc

  is_chosen : (n : ℕ) (o : Decided (P n)) → P n → chosen o n ≡ Some n
  is_chosen n (inl p) q = refl
  is_chosen n (inr not) q = absurd (not q)

  pub all_of : (b : ℕ) → ((n : ℕ) → P n → n < b) → (ns : List ℕ) × ListsAll P ns
  all_of b within =
      let (ns, c) = all_below (λ (n : ℕ). n) (λ n. chosen (d n) n) (λ n x e. (chosen_is n x (d n) e).0) b in (
        ns,
        record {
          rising = subst IsRising (map-id ns) c.rising;
          each = λ n. (
            (λ at. (chosen_is n n (d n) (c.only n at)).1),
            (λ p. c.has n n (omega arith) (within n p) (is_chosen n (d n) p)),
          );
        },
      )
