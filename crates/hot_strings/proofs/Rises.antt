-- Keys that rise: an earlier one is the lesser, and no two are the same.
use Rattle.std.proofs.Common.{◌≡◌, ◌+◌, ◌-◌, ◌<◌, ◌≤◌, ℕ, suc, List, [], ◌∷◌, ◌++◌, length, get_or, true, not, ◌==◌, ◌⊎◌, inl, inr, refl, ap, sym, ◌∙◌, subst, arith}
use Rattle.std.specs.List.Sorted.{IsStrictlySortedBy, IsNonDecreasingBy, IsPartitionPoint}
use Rattle.std.specs.Ordering.{nat_cmp, ordering_then, ordering_reverse, ordering_index, is_lt, MatchOrdering}
use Rattle.std.specs.Cmp.{nat_cmp_is, ranks}
use Rattle.std.specs.Cmp.Lexicographic.{slice_cmp}
use Rattle.std.specs.declared.cmp.Ordering.{Ordering}
use Rattle.std.specs.declared.cmp.Ordering.TheVariants.{Less, Equal, Greater}
use Rattle.std.proofs.lemmas.Bool.{cases_lt}
use Rattle.std.proofs.lemmas.Cmp.{nat_list_cmp_total, tied_itself}
use Rattle.std.proofs.lemmas.List.{append-nil, get_or-map, get_or_default, length-map}
use Rattle.std.proofs.lemmas.List.Sorted.{searchable_from_sorted}
use Rattle.std.proofs.lemmas.Map.Keys.{sorted_from_all_adjacent, Less-from_sorted}
use Rattle.std.proofs.lemmas.Option.{slice_get-get_or}
use Rattle.hot_strings.specs.Indexes.{keys_in}
use Rattle.hot_strings.specs.Pieces.{Params, AreDistinct, NoKeyBegins}
use Rattle.hot_strings.specs.Places.{Begins}
use Rattle.hot_strings.specs.Rising.{Rising}

abbrev pub cmp : List ℕ → List ℕ → Ordering
cmp = slice_cmp nat_cmp

-- ---- keys that rise

-- a comparison that isn't Less passes the test
pub not_less : (o : Ordering) → not (ordering_index o == 0) ≡ true → o ≡ Less → ⊥
not_less Less t e = cc
not_less Equal t e = cc
not_less Greater t e = cc

by_keys : (ps : Params) (i j : ℕ) (d : List ℕ × List ℕ) → i < length ps → j < length ps → cmp (get_or ps i d).0 (get_or ps j d).0 ≡ cmp (get_or (keys_in ps) i d.0) (get_or (keys_in ps) j d.0)
by_keys ps i j d a b =
    ap (λ k. cmp k (get_or ps j d).0) (sym (get_or-map (λ (p : List ℕ × List ℕ). p.0) ps i d d.0 a))
    ∙ ap (cmp (get_or (keys_in ps) i d.0)) (sym (get_or-map (λ (p : List ℕ × List ℕ). p.0) ps j d d.0 b))

-- where keys rise an earlier one is the lesser
pub Less-in_order : (ps : Params) (i j : ℕ) (d : List ℕ × List ℕ) → Rising (keys_in ps) → i < j → j < length ps → cmp (get_or ps i d).0 (get_or ps j d).0 ≡ Less
Less-in_order ps i j d up a b =
    by_keys ps i j d (omega arith) b ∙ Less-from_sorted cmp (keys_in ps) i j d.0 up a (omega (arith, b, length-map ps (λ (p : List ℕ × List ℕ). p.0)))

-- keys rise where each comes before the next
pub in_order-from_adjacent : (ps : Params) → ((k : ℕ) (d : List ℕ × List ℕ) → k + 1 < length ps → cmp (get_or ps k d).0 (get_or ps (k + 1) d).0 ≡ Less) → Rising (keys_in ps)
in_order-from_adjacent ps each = sorted_from_all_adjacent nat_list_cmp_total (keys_in ps) [] at
  where
    at : (k : ℕ) → k + 1 < length (keys_in ps) → cmp (get_or (keys_in ps) k []) (get_or (keys_in ps) (k + 1) []) ≡ Less
    at k below =
        let inside : k + 1 < length ps = omega (arith, below, length-map ps (λ (p : List ℕ × List ℕ). p.0)) in
        sym (by_keys ps k (k + 1) ([], []) (omega arith) inside) ∙ each k ([], []) inside

-- no two keys that rise are the same
pub AreDistinct-rising : (ps : Params) → Rising (keys_in ps) → AreDistinct ps
unfolding IsStrictlySortedBy
AreDistinct-rising [] up = tt
AreDistinct-rising (p ∷ ps) up = (
  λ i d l same.
      let less : cmp p.0 (get_or ps i d).0 ≡ Less = Less-in_order (p ∷ ps) 0 (suc i) d up (omega arith) (omega arith) in
      let no : Less ≡ Equal = sym less ∙ (ap (cmp p.0) same ∙ tied_itself nat_list_cmp_total p.0) in cc,
  AreDistinct-rising ps up.1,
)
