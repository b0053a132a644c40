-- A binary search among things in byte order of their names finds the one of a name.
use Rattle.std.proofs.Common.{◌≡◌, ℕ, zero, suc, ◌+◌, ◌<◌, List, [], ◌∷◌, Option, Some, None, Bool, false}
use Rattle.std.proofs.Common.{◌∙◌, length, get_or, map, refl, sym, ap, inl, inr, arith, if◌then◌else◌, find, bytes_eq}
use Rattle.std.specs.List.{AllByRecursion}
use Rattle.std.specs.List.Sorted.{IsStrictlySortedBy, IsNonDecreasingBy, IsPartitionPoint}
use Rattle.std.specs.Ordering.{nat_cmp, ordering_index, is_lt, is_eq}
use Rattle.std.specs.Cmp.Lexicographic.{slice_cmp}
use Rattle.std.specs.declared.cmp.Ordering.{Ordering}
use Rattle.std.specs.declared.cmp.Ordering.TheVariants.{Less, Equal, Greater}
use Rattle.std.proofs.lemmas.Bool.{cases_lt}
use Rattle.std.proofs.lemmas.Cmp.{nat_list_cmp_total}
use Rattle.std.proofs.lemmas.List.Sorted.{searchable_from_sorted}
use Rattle.std.proofs.lemmas.Map.Text.{is_eq-slice_cmp}
use Rattle.heat_value.proofs.Searches.{flipped}
use Rattle.heat_plan.specs.Order.{Rising}

abbrev pub cmp : List ℕ → List ℕ → Ordering
cmp = slice_cmp nat_cmp

-- whether two names are equal, by how they compare
pub same_by : (a b : List ℕ) (o : Ordering) → cmp a b ≡ o → bytes_eq a b ≡ is_eq o
same_by a b o is = sym (is_eq-slice_cmp a b) ∙ ap is_eq is

-- what is below a name that is the same as another is below the other
pub below_same : (a b c : List ℕ) → cmp a b ≡ Less → cmp b c ≡ Equal → cmp a c ≡ Less
below_same a b c below same =
    flipped c a Greater (sym (nat_list_cmp_total.congr b c a same) ∙ flipped a b Less below)

module _ {A : Type 0} (named : A → List ℕ) where
  -- ---- the names rise

  -- a name below all others is below each of them
  pub below_at : (k : List ℕ) (xs : List A) (p : ℕ) (d : A)
      → AllByRecursion (λ y. cmp k y ≡ Less) (map named xs) → p < length xs → cmp k (named (get_or xs p d)) ≡ Less
  below_at k [] p d all l = absurd (omega arith)
  below_at k (x ∷ xs) zero d all l = all.0
  below_at k (x ∷ xs) (suc p) d all l = below_at k xs p d all.1 (omega arith)

  -- a name is below those behind it
  far : (xs : List A) (p q : ℕ) (d : A) → Rising (map named xs) → p < q → q < length xs
      → cmp (named (get_or xs p d)) (named (get_or xs q d)) ≡ Less
  unfolding IsStrictlySortedBy
  far [] p q d up a l = absurd (omega arith)
  far (x ∷ xs) p zero d up a l = absurd (omega arith)
  far (x ∷ xs) zero (suc q) d up a l = below_at (named x) xs q d up.0 (omega arith)
  far (x ∷ xs) (suc p) (suc q) d up a l = far xs p q d up.1 (omega arith) (omega arith)

  -- the comparisons with a name rise
  pub names_rise : (name : List ℕ) (xs : List A) → Rising (map named xs)
      → IsNonDecreasingBy (λ (x : A). ordering_index (cmp (named x) name)) xs
  names_rise name xs up = searchable_from_sorted nat_list_cmp_total named xs name
      (λ p d a l. ap is_lt (flipped (named (get_or xs p d)) (named (get_or xs (p + 1) d)) Less
      (far xs p (p + 1) d up (omega arith) (omega arith))))

  -- ---- what is found

  -- what is found, once the first one's name is tested
  abbrev tested : List ℕ → A → List A → Bool → Option A
  tested name x xs b = if b then Some x else find (λ y. bytes_eq (named y) name) xs

  -- what stands at a place at which the name stands is the one of the name
  pub found_at : (name : List ℕ) (xs : List A) (p : ℕ) (d : A) → Rising (map named xs) → p < length xs
      → ((e : A) → cmp (named (get_or xs p e)) name ≡ Equal)
      → Some (get_or xs p d) ≡ find (λ y. bytes_eq (named y) name) xs
  unfolding IsStrictlySortedBy
  found_at name [] p d up l here = absurd (omega arith)
  found_at name (x ∷ xs) zero d up l here = sym (ap (tested name x xs) (same_by (named x) name Equal (here x)))
  found_at name (x ∷ xs) (suc p) d up l here =
      let before : cmp (named x) name ≡ Less =
      below_same (named x) (named (get_or xs p x)) name (below_at (named x) xs p x up.0 (omega arith)) (here x) in
      found_at name xs p d up.1 (omega arith) here
      ∙ sym (ap (tested name x xs) (same_by (named x) name Less before))

  none_named : (name : List ℕ) (xs : List A)
      → ((p : ℕ) (d : A) → p < length xs → bytes_eq (named (get_or xs p d)) name ≡ false)
      → None ≡ find (λ y. bytes_eq (named y) name) xs
  none_named name [] other = refl
  none_named name (x ∷ xs) other =
      none_named name xs (λ p d l. other (suc p) d (omega arith))
      ∙ sym (ap (tested name x xs) (other 0 x (omega arith)))

  -- where all before a place are below the name and all from there on are above it, none has the name
  pub found_none : (name : List ℕ) (xs : List A) (p : ℕ)
      → IsPartitionPoint (λ (x : A). cmp (named x) name ≡ Less) (λ (x : A). cmp (named x) name ≡ Greater) xs p
      → None ≡ find (λ y. bytes_eq (named y) name) xs
  found_none name xs p parts = none_named name xs (λ k d l. elim (cases_lt k p) [
    | inl below ↦ same_by (named (get_or xs k d)) name Less (parts.0 k d (omega arith) below)
    | inr above ↦ same_by (named (get_or xs k d)) name Greater (parts.1 k d above l)
  ])
