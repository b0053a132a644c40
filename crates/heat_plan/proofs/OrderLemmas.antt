-- Things in byte order of their names, pair by pair.
use Rattle.std.proofs.Common.{◌≡◌, ◌∙◌, ℕ, ◌+◌, ◌<◌, List, [], ◌∷◌, true, not, ◌==◌, length, get_or, map, ap, sym, arith}
use Rattle.std.proofs.lemmas.List.{get_or-map, length-map}
use Rattle.std.proofs.lemmas.Cmp.{nat_list_cmp_total}
use Rattle.std.proofs.lemmas.Map.Keys.{sorted_from_all_adjacent, Less-from_sorted}
use Rattle.std.specs.Ordering.{nat_cmp, ordering_index}
use Rattle.std.specs.Cmp.Lexicographic.{slice_cmp}
use Rattle.std.specs.declared.cmp.Ordering.{Ordering}
use Rattle.std.specs.declared.cmp.Ordering.TheVariants.{Less, Equal, Greater}
use Rattle.heat_plan.specs.Order.{Rising}

abbrev cmp : List ℕ → List ℕ → Ordering
cmp = slice_cmp nat_cmp

-- a comparison that isn't Less passes the test
pub not_less : (o : Ordering) → not (ordering_index o == 0) ≡ true → o ≡ Less → ⊥
not_less Less t e = cc
not_less Equal t e = cc
not_less Greater t e = cc

module _ {A : Type 0} (named : A → List ℕ) where
  -- how two things compare is how their names do
  by_names : (xs : List A) (i j : ℕ) (d : A) → i < length xs → j < length xs
      → cmp (named (get_or xs i d)) (named (get_or xs j d)) ≡ cmp (get_or (map named xs) i (named d)) (get_or (map named xs) j (named d))
  by_names xs i j d a b =
      ap (λ n. cmp n (named (get_or xs j d))) (sym (get_or-map named xs i d (named d) a))
      ∙ ap (cmp (get_or (map named xs) i (named d))) (sym (get_or-map named xs j d (named d) b))

  -- where names rise an earlier one is the lesser
  pub Less-in_order : (xs : List A) (i j : ℕ) (d : A) → Rising (map named xs) → i < j → j < length xs
      → cmp (named (get_or xs i d)) (named (get_or xs j d)) ≡ Less
  Less-in_order xs i j d up a b =
      by_names xs i j d (omega arith) b
      ∙ Less-from_sorted cmp (map named xs) i j (named d) up a (omega (arith, b, length-map xs named))

  -- names rise where each comes before the next
  pub in_order-from_adjacent : (xs : List A)
      → ((k : ℕ) (d : A) → k + 1 < length xs → cmp (named (get_or xs k d)) (named (get_or xs (k + 1) d)) ≡ Less)
      → Rising (map named xs)
  in_order-from_adjacent xs each = sorted_from_all_adjacent nat_list_cmp_total (map named xs) [] (at xs each)
    where
      at : (xs : List A) → ((k : ℕ) (d : A) → k + 1 < length xs → cmp (named (get_or xs k d)) (named (get_or xs (k + 1) d)) ≡ Less)
          → (k : ℕ) → k + 1 < length (map named xs) → cmp (get_or (map named xs) k []) (get_or (map named xs) (k + 1) []) ≡ Less
      at [] each k below = absurd (omega arith)
      at (x ∷ xs) each k below =
          let inside : k + 1 < length (x ∷ xs) = omega (arith, below, length-map xs named) in
          ap (λ n. cmp n (get_or (map named (x ∷ xs)) (k + 1) [])) (get_or-map named (x ∷ xs) k x [] (omega arith))
          ∙ ap (cmp (named (get_or (x ∷ xs) k x))) (get_or-map named (x ∷ xs) (k + 1) x [] inside)
          ∙ each k x inside
