-- Look-ups by number, and the least and the greatest number as a search goes on.
use Rattle.std.proofs.Common.{◌≡◌, ◌<◌, ◌≤◌, ◌+◌, ◌∙◌, ℕ, Bool, true, false, cond, List, [], ◌∷◌, Option, Some, None, length, get_or, nat_eq, nat_lt, refl, sym, ap, subst, ⊎_elim, arith, ltb-true, ltb-false}
use Rattle.std.proofs.lemmas.List.{get_or_default}
use Rattle.heat_plan.specs.Tables.{at}
use Rattle.keyed_table.proofs.Numbers.{compared}
use Rattle.keyed_table.proofs.Sortings.{number_sorting}
use Rattle.keyed_table.proofs.Tables.{at-among}
use Rattle.row_table.specs.declared.row.Row.{Row}
use Rattle.row_table.specs.Rows.{row_at, row_key}
use Rattle.row_table.specs.Folds.{lesser, greater}

has : (k : ℕ) (rows : List Row) (y : Row) → at nat_eq row_key rows k ≡ Some y → nat_eq (row_key y) k ≡ true
unfolding at
has k [] y h = cc
has k (x ∷ xs) y h = by (nat_eq (row_key x) k) refl h (has k xs y) where
  by : (b : Bool) → nat_eq (row_key x) k ≡ b → cond b (Some x) (at nat_eq row_key xs k) ≡ Some y
      → (at nat_eq row_key xs k ≡ Some y → nat_eq (row_key y) k ≡ true) → nat_eq (row_key y) k ≡ true
  by true is e rest = let f : x ≡ y = cc in subst (λ z. nat_eq (row_key z) k ≡ true) f is
  by false is e rest = rest e

-- a look-up gives a row of the number
pub row-has : (k : ℕ) (rows : List Row) (y : Row) → row_at rows k ≡ Some y → y.no ≡ k
row-has k rows y h = number_sorting.equal y.no k (has k rows y h)

-- where a row of a number stands
pub row-among : (k : ℕ) (rows : List Row) (y : Row) → row_at rows k ≡ Some y → (q : ℕ) × (q < length rows) × ((d : Row) → get_or rows q d ≡ y)
row-among k rows y h = at-among nat_eq row_key k rows y h

-- the least number that fits, among the first rows
abbrev pub LeastSoFar : List Row → (ℕ → Type 0) → ℕ → Option ℕ → Type 0
LeastSoFar rows Fits i None = (k : ℕ) (d : Row) → k < i → ¬ Fits (get_or rows k d).no
LeastSoFar rows Fits i (Some b) = Fits b × ((k : ℕ) (d : Row) → k < i → Fits (get_or rows k d).no → b ≤ (get_or rows k d).no)

-- the greatest
abbrev pub GreatestSoFar : List Row → (ℕ → Type 0) → ℕ → Option ℕ → Type 0
GreatestSoFar rows Fits i None = (k : ℕ) (d : Row) → k < i → ¬ Fits (get_or rows k d).no
GreatestSoFar rows Fits i (Some b) = Fits b × ((k : ℕ) (d : Row) → k < i → Fits (get_or rows k d).no → (get_or rows k d).no ≤ b)

module _ (rows : List Row) (Fits : ℕ → Type 0) where
  reads : (i k : ℕ) (d r : Row) → i < length rows → r ≡ get_or rows i r → k ≡ i → (get_or rows k d).no ≡ r.no
  reads i k d r lt read e = ap row_key (ap (λ n. get_or rows n d) e ∙ get_or_default rows i d r lt ∙ sym read)

  pub least_hit : (i : ℕ) (best : Option ℕ) (r : Row) → i < length rows → r ≡ get_or rows i r → Fits r.no → LeastSoFar rows Fits i best
      → LeastSoFar rows Fits (i + 1) (Some (lesser best r.no))
  least_hit i None r lt read hit h = (
    hit,
    λ k d less is. ⊎_elim (λ before. absurd (h k d before is))
        (λ rest. ⊎_elim (λ same. omega (arith, reads i k d r lt read same)) (λ more. absurd (omega (arith, less, more))) rest) (compared k i),
  )
  least_hit i (Some b) r lt read hit h = by (nat_lt b r.no) refl where
    by : (t : Bool) → nat_lt b r.no ≡ t → LeastSoFar rows Fits (i + 1) (Some (cond t b r.no))
    by true e = (
      h.0,
      λ k d less is. ⊎_elim (λ before. h.1 k d before is)
          (λ rest. ⊎_elim (λ same. omega (arith, reads i k d r lt read same, ltb-true b r.no e)) (λ more. absurd (omega (arith, less, more))) rest) (compared k i),
    )
    by false e = (
      hit,
      λ k d less is. ⊎_elim (λ before. omega (arith, h.1 k d before is, ltb-false b r.no e))
          (λ rest. ⊎_elim (λ same. omega (arith, reads i k d r lt read same)) (λ more. absurd (omega (arith, less, more))) rest) (compared k i),
    )

  pub least_miss : (i : ℕ) (best : Option ℕ) (r : Row) → i < length rows → r ≡ get_or rows i r → ¬ Fits r.no → LeastSoFar rows Fits i best
      → LeastSoFar rows Fits (i + 1) best
  least_miss i None r lt read miss h = λ k d less is. ⊎_elim (λ before. h k d before is)
      (λ rest. ⊎_elim (λ same. miss (subst Fits (reads i k d r lt read same) is)) (λ more. omega (arith, less, more)) rest) (compared k i)
  least_miss i (Some b) r lt read miss h = (
    h.0,
    λ k d less is. ⊎_elim (λ before. h.1 k d before is)
        (λ rest. ⊎_elim (λ same. absurd (miss (subst Fits (reads i k d r lt read same) is))) (λ more. absurd (omega (arith, less, more))) rest) (compared k i),
  )

  pub greatest_hit : (i : ℕ) (best : Option ℕ) (r : Row) → i < length rows → r ≡ get_or rows i r → Fits r.no → GreatestSoFar rows Fits i best
      → GreatestSoFar rows Fits (i + 1) (Some (greater best r.no))
  greatest_hit i None r lt read hit h = (
    hit,
    λ k d less is. ⊎_elim (λ before. absurd (h k d before is))
        (λ rest. ⊎_elim (λ same. omega (arith, reads i k d r lt read same)) (λ more. absurd (omega (arith, less, more))) rest) (compared k i),
  )
  greatest_hit i (Some b) r lt read hit h = by (nat_lt r.no b) refl where
    by : (t : Bool) → nat_lt r.no b ≡ t → GreatestSoFar rows Fits (i + 1) (Some (cond t b r.no))
    by true e = (
      h.0,
      λ k d less is. ⊎_elim (λ before. h.1 k d before is)
          (λ rest. ⊎_elim (λ same. omega (arith, reads i k d r lt read same, ltb-true r.no b e)) (λ more. absurd (omega (arith, less, more))) rest) (compared k i),
    )
    by false e = (
      hit,
      λ k d less is. ⊎_elim (λ before. omega (arith, h.1 k d before is, ltb-false r.no b e))
          (λ rest. ⊎_elim (λ same. omega (arith, reads i k d r lt read same)) (λ more. absurd (omega (arith, less, more))) rest) (compared k i),
    )

  pub greatest_miss : (i : ℕ) (best : Option ℕ) (r : Row) → i < length rows → r ≡ get_or rows i r → ¬ Fits r.no → GreatestSoFar rows Fits i best
      → GreatestSoFar rows Fits (i + 1) best
  greatest_miss i None r lt read miss h = λ k d less is. ⊎_elim (λ before. h k d before is)
      (λ rest. ⊎_elim (λ same. miss (subst Fits (reads i k d r lt read same) is)) (λ more. omega (arith, less, more)) rest) (compared k i)
  greatest_miss i (Some b) r lt read miss h = (
    h.0,
    λ k d less is. ⊎_elim (λ before. h.1 k d before is)
        (λ rest. ⊎_elim (λ same. absurd (miss (subst Fits (reads i k d r lt read same) is))) (λ more. absurd (omega (arith, less, more))) rest) (compared k i),
  )

  -- a number that fits is that of a row: nothing else was read
  module _ (its : (n : ℕ) → Fits n → (q : ℕ) × (q < length rows) × ((d : Row) → (get_or rows q d).no ≡ n)) (any : (n : ℕ) → Fits n → Row) where
    pub none_fits : (i : ℕ) → i ≡ length rows → LeastSoFar rows Fits i None → (n : ℕ) → Fits n → ⊥
    none_fits i e h n is = let (q, lq, own) = its n is in h q (any n is) (omega (arith, lq, e)) (subst Fits (sym (own (any n is))) is)

    pub least_of_all : (i b : ℕ) → i ≡ length rows → LeastSoFar rows Fits i (Some b) → (n : ℕ) → Fits n → b ≤ n
    least_of_all i b e h n is = let (q, lq, own) = its n is in
        omega (arith, own (any n is), h.1 q (any n is) (omega (arith, lq, e)) (subst Fits (sym (own (any n is))) is))

    pub greatest_of_all : (i b : ℕ) → i ≡ length rows → GreatestSoFar rows Fits i (Some b) → (n : ℕ) → Fits n → n ≤ b
    greatest_of_all i b e h n is = let (q, lq, own) = its n is in
        omega (arith, own (any n is), h.1 q (any n is) (omega (arith, lq, e)) (subst Fits (sym (own (any n is))) is))
