-- Names in byte order are marked where they are named, one after the other.
use Rattle.std.proofs.Common.{◌≡◌, ◌∙◌, ℕ, zero, suc, ◌+◌, ◌<◌, List, [], ◌∷◌, ◌++◌, Bool, true, false, ◌||◌}
use Rattle.std.proofs.Common.{length, map, replicate, get_or, bytes_eq, refl, sym, ap, inl, inr, arith}
use Rattle.std.proofs.Math.ListN.{set}
use Rattle.std.specs.List.Sorted.{IsStrictlySortedBy, IsNonDecreasingBy, IsPartitionPoint}
use Rattle.std.specs.Ordering.{ordering_index, is_lt}
use Rattle.std.specs.declared.cmp.Ordering.TheVariants.{Less, Equal, Greater}
use Rattle.std.proofs.lemmas.Bool.{cases_lt}
use Rattle.std.proofs.lemmas.Cmp.{nat_list_cmp_total}
use Rattle.std.proofs.lemmas.List.Folds.{list_any-append}
use Rattle.std.proofs.lemmas.List.Sorted.{searchable_from_sorted}
use Rattle.std.proofs.lemmas.Map.Keys.{Less-from_sorted}
use Rattle.heat_value.proofs.Searches.{flipped}
use Rattle.heat_plan.specs.Order.{Rising}
use Rattle.hot_forms.specs.Checks.{is_among}
use Rattle.heat_plan.proofs.Searched.{cmp, same_by, below_same}

-- of each name whether it is among these
abbrev pub marks : List (List ℕ) → List (List ℕ) → List Bool
marks named names = map (is_among named) names

or_false : (b : Bool) → (b || false) ≡ b
or_false true = refl
or_false false = refl

or_true : (b : Bool) → (b || true) ≡ true
or_true true = refl
or_true false = refl

-- where nothing is named no name is marked
pub none_marked : (names : List (List ℕ)) → replicate (length names) false ≡ marks [] names
none_marked [] = refl
none_marked (n ∷ names) = ap (λ (ms : List Bool). false ∷ ms) (none_marked names)

-- ---- one more is named

one_more : (named : List (List ℕ)) (name n : List ℕ) (b : Bool) → bytes_eq n name ≡ b
    → is_among (named ++ name ∷ []) n ≡ (is_among named n || b)
one_more named name n b is =
    list_any-append (bytes_eq n) named (name ∷ [])
    ∙ ap (λ (c : Bool). is_among named n || c) (or_false (bytes_eq n name) ∙ is)

-- another name is marked as before
as_before : (named : List (List ℕ)) (name n : List ℕ) → bytes_eq n name ≡ false
    → is_among named n ≡ is_among (named ++ name ∷ []) n
as_before named name n other = sym (one_more named name n false other ∙ or_false (is_among named n))

-- where none of the names is named no mark changes
pub others_marked : (named names : List (List ℕ)) (name : List ℕ)
    → ((p : ℕ) (d : List ℕ) → p < length names → bytes_eq (get_or names p d) name ≡ false)
    → marks named names ≡ marks (named ++ name ∷ []) names
others_marked named [] name other = refl
others_marked named (n ∷ names) name other =
    let first : is_among named n ≡ is_among (named ++ name ∷ []) n =
    as_before named name n (other 0 n (omega arith)) in
    let rest : marks named names ≡ marks (named ++ name ∷ []) names =
    others_marked named names name (λ p d l. other (suc p) d (omega arith)) in cc

-- ---- where the search ends

-- the comparisons with a name rise
pub texts_rise : (name : List ℕ) (names : List (List ℕ)) → Rising names
    → IsNonDecreasingBy (λ (n : List ℕ). ordering_index (cmp n name)) names
texts_rise name names up = searchable_from_sorted nat_list_cmp_total (λ (n : List ℕ). n) names name
    (λ p d a l. ap is_lt (flipped (get_or names p d) (get_or names (p + 1) d) Less
    (Less-from_sorted cmp names p (p + 1) d up (omega arith) (omega arith))))

-- the mark at the place of the name is the only one that changes
pub mark_found : (named names : List (List ℕ)) (name : List ℕ) (p : ℕ) → Rising names → p < length names
    → ((d : List ℕ) → cmp (get_or names p d) name ≡ Equal)
    → set (marks named names) p true ≡ marks (named ++ name ∷ []) names
unfolding IsStrictlySortedBy
mark_found named [] name p up l here = absurd (omega arith)
mark_found named (n ∷ names) name zero up l here =
    let first : is_among (named ++ name ∷ []) n ≡ true =
    one_more named name n true (same_by n name Equal (here n)) ∙ or_true (is_among named n) in
    let above : (q : ℕ) (d : List ℕ) → q < length names → bytes_eq (get_or names q d) name ≡ false =
    λ q d a. same_by (get_or names q d) name Greater (flipped name (get_or names q d) Less
    (sym (nat_list_cmp_total.congr n name (get_or names q d) (here n))
    ∙ Less-from_sorted cmp (n ∷ names) 0 (suc q) d up (omega arith) (omega (arith, a)))) in
    let rest : marks named names ≡ marks (named ++ name ∷ []) names = others_marked named names name above in cc
mark_found named (n ∷ names) name (suc p) up l here =
    let before : cmp n name ≡ Less =
    below_same n (get_or names p n) name (Less-from_sorted cmp (n ∷ names) 0 (suc p) n up (omega arith) l) (here n) in
    let first : is_among named n ≡ is_among (named ++ name ∷ []) n =
    as_before named name n (same_by n name Less before) in
    let rest : set (marks named names) p true ≡ marks (named ++ name ∷ []) names =
    mark_found named names name p up.1 (omega arith) here in cc

-- where all before a place are below the name and all from there on are above it, no mark changes
pub mark_missed : (named names : List (List ℕ)) (name : List ℕ) (p : ℕ)
    → IsPartitionPoint (λ (n : List ℕ). cmp n name ≡ Less) (λ (n : List ℕ). cmp n name ≡ Greater) names p
    → marks named names ≡ marks (named ++ name ∷ []) names
mark_missed named names name p parts = others_marked named names name (λ k d l. elim (cases_lt k p) [
  | inl below ↦ same_by (get_or names k d) name Less (parts.0 k d (omega arith) below)
  | inr above ↦ same_by (get_or names k d) name Greater (parts.1 k d above l)
])
