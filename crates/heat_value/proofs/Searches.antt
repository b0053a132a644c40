-- A binary search among rising keys ends at the key's place, and there stands what the map has under it.
use Rattle.std.proofs.Common.{◌≡◌, ◌∙◌, ℕ, zero, suc, ◌+◌, ◌<◌, ◌≤◌, List, [], ◌∷◌, length, get_or, refl, ap, sym, Result, Ok, Err, Bool, Option, Some, None, option_map, slice_get, if◌then◌else◌, arith}
use Rattle.std.proofs.lemmas.Cmp.{nat_list_cmp_total}
use Rattle.std.proofs.lemmas.List.Sorted.{searchable_from_sorted}
use Rattle.std.proofs.lemmas.Map.Text.{is_eq-slice_cmp}
use Rattle.std.specs.List.{AllByRecursion}
use Rattle.std.specs.List.Sorted.{IsStrictlySortedBy, IsSearchInRange, IsBinarySearchResult, IsNonDecreasingBy}
use Rattle.std.specs.Ordering.{nat_cmp, match_ordering, ordering_index, ordering_reverse, is_lt, is_eq}
use Rattle.std.specs.Str.{bytes_eq}
use Rattle.std.specs.Cmp.Lexicographic.{slice_cmp}
use Rattle.std.specs.declared.cmp.Ordering.{Ordering}
use Rattle.std.specs.declared.cmp.Ordering.TheVariants.{Less, Equal, Greater}
use Rattle.heat_value.specs.Data.{Data, keys_of, Rises, lookup}
use Rattle.heat_value.specs.Meaning.{data_of, members_of}
use Rattle.heat_value.specs.Places.{place, one_further}
use Rattle.heat_value.specs.declared.value.Value.TheVariants as value
use Rattle.heat_value.specs.declared.value.Member.{Member}

abbrev cmp : List ℕ → List ℕ → Ordering
cmp = slice_cmp nat_cmp

pub flipped : (a b : List ℕ) (o : Ordering) → cmp a b ≡ o → cmp b a ≡ ordering_reverse o
flipped a b o is = nat_list_cmp_total.antisymm b a ∙ ap ordering_reverse is

-- ---- the comparisons with a key rise

-- each key behind one that is below all is above it
above_at : (k : List ℕ) (ms : List Member) (i : ℕ) (d : Member) → AllByRecursion (λ y. cmp k y ≡ Less) (keys_of (members_of ms)) → i < length ms → cmp k (get_or ms i d).key ≡ Less
above_at k [] i d all l = absurd (omega arith)
above_at k (m ∷ ms) zero d all l = all.0
above_at k (m ∷ ms) (suc i) d all l = above_at k ms i d all.1 (omega arith)

far : (ms : List Member) (i j : ℕ) (d : Member) → Rises (members_of ms) → i < j → j < length ms → cmp (get_or ms i d).key (get_or ms j d).key ≡ Less
unfolding IsStrictlySortedBy
far [] i j d h a l = absurd (omega arith)
far (m ∷ ms) i zero d h a l = absurd (omega arith)
far (m ∷ ms) zero (suc j) d h a l = above_at m.key ms j d h.0 (omega arith)
far (m ∷ ms) (suc i) (suc j) d h a l = far ms i j d h.1 (omega arith) (omega arith)

rises : (k : List ℕ) (ms : List Member) → Rises (members_of ms) → IsNonDecreasingBy (λ (m : Member). ordering_index (cmp m.key k)) ms
rises k ms h = searchable_from_sorted nat_list_cmp_total (λ (m : Member). m.key) ms k
    (λ i d a l. ap is_lt (flipped (get_or ms i d).key (get_or ms (i + 1) d).key Less (far ms i (i + 1) d h (omega arith) (omega arith))))

-- ---- the place that is found

abbrev placed : Ordering → Result ℕ ℕ → Result ℕ ℕ
placed o r = match_ordering o (Err 0) (Ok 0) (one_further r)

place_at : (k : List ℕ) (ms : List Member) (i : ℕ) (d : Member) → Rises (members_of ms) → i < length ms → cmp (get_or ms i d).key k ≡ Equal → place k ms ≡ Ok i
unfolding IsStrictlySortedBy
place_at k [] i d h l is = absurd (omega arith)
place_at k (m ∷ ms) zero d h l is = ap (λ o. placed o (place k ms)) (flipped m.key k Equal is)
place_at k (m ∷ ms) (suc i) d h l is =
    let this : List ℕ = (get_or ms i d).key in
    let below : cmp m.key this ≡ Less = above_at m.key ms i d h.0 (omega arith) in
    let later : cmp k m.key ≡ Greater = sym (nat_list_cmp_total.congr this k m.key is) ∙ flipped m.key this Less below in
    ap (λ o. placed o (place k ms)) later ∙ ap one_further (place_at k ms i d h.1 (omega arith) is)

place_gap : (k : List ℕ) (ms : List Member) (i : ℕ) → ((n : ℕ) (d : Member) → n < i → cmp (get_or ms n d).key k ≡ Less)
    → ((n : ℕ) (d : Member) → i ≤ n → n < length ms → cmp (get_or ms n d).key k ≡ Greater) → i ≤ length ms → place k ms ≡ Err i
place_gap k [] i low high l = ap Err (omega arith)
place_gap k (m ∷ ms) zero low high l = ap (λ o. placed o (place k ms)) (flipped m.key k Greater (high 0 m (omega arith) (omega arith)))
place_gap k (m ∷ ms) (suc i) low high l =
    ap (λ o. placed o (place k ms)) (flipped m.key k Less (low 0 m (omega arith)))
    ∙ ap one_further (place_gap k ms i (λ n d a. low (suc n) d (omega arith)) (λ n d a b. high (suc n) d (omega arith) (omega arith)) (omega arith))

pub place_found : (k : List ℕ) (ms : List Member) (r : Result ℕ ℕ) → Rises (members_of ms) → IsSearchInRange r (length ms) → IsBinarySearchResult (λ (m : Member). cmp m.key k) ms r → r ≡ place k ms
place_found k ms (Ok i) h l at = let any : Member = record { key = []; value = value.Null } in sym (place_at k ms i any h l (at any))
place_found k ms (Err i) h l parted =
    let parts = parted (rises k ms h) in
    sym (place_gap k ms i (λ n d a. parts.0 n d (omega arith) a) (λ n d a b. parts.1 n d a b) l)

-- ---- what stands there

-- the value at a place that was found
abbrev pub at_place : Result ℕ ℕ → List Member → Option Data
at_place (Ok i) ms = option_map (λ (m : Member). data_of m.value) (slice_get ms i)
at_place (Err i) ms = None

at_further : (r : Result ℕ ℕ) (m : Member) (ms : List Member) → at_place (one_further r) (m ∷ ms) ≡ at_place r ms
at_further (Ok i) m ms = refl
at_further (Err i) m ms = refl

-- whether two keys are equal, by how they compare
pub equal_by : (k l : List ℕ) (o : Ordering) → cmp k l ≡ o → bytes_eq l k ≡ is_eq (ordering_reverse o)
equal_by k l o is = sym (is_eq-slice_cmp l k) ∙ ap is_eq (flipped k l o is)

-- what a map has under a key, once its first member's key is compared
abbrev tested : List ℕ → Member → List Member → Bool → Option Data
tested k m ms b = if b then Some (data_of m.value) else lookup k (members_of ms)

-- a key below all others has no value
nothing_below : (k : List ℕ) (ms : List Member) → AllByRecursion (λ y. cmp k y ≡ Less) (keys_of (members_of ms)) → lookup k (members_of ms) ≡ None
nothing_below k [] all = refl
nothing_below k (m ∷ ms) all = ap (tested k m ms) (equal_by k m.key Less all.0) ∙ nothing_below k ms all.1

pub below_all : (l k : List ℕ) (ks : List (List ℕ)) → cmp l k ≡ Less → AllByRecursion (λ y. cmp k y ≡ Less) ks → AllByRecursion (λ y. cmp l y ≡ Less) ks
below_all l k [] h all = tt
below_all l k (y ∷ ys) h all = (nat_list_cmp_total.trans l k y h all.0, below_all l k ys h all.1)

pub lookup_placed : (k : List ℕ) (ms : List Member) → Rises (members_of ms) → lookup k (members_of ms) ≡ at_place (place k ms) ms
unfolding IsStrictlySortedBy
lookup_placed k [] h = refl
lookup_placed k (m ∷ ms) h = by (cmp k m.key) refl (lookup_placed k ms h.1)
  where
    by : (o : Ordering) → cmp k m.key ≡ o → lookup k (members_of ms) ≡ at_place (place k ms) ms → tested k m ms (bytes_eq m.key k) ≡ at_place (placed o (place k ms)) (m ∷ ms)
    by Less is more = ap (tested k m ms) (equal_by k m.key Less is) ∙ nothing_below k ms (below_all k m.key (keys_of (members_of ms)) is h.0)
    by Equal is more = ap (tested k m ms) (equal_by k m.key Equal is)
    by Greater is more = ap (tested k m ms) (equal_by k m.key Greater is) ∙ more ∙ sym (at_further (place k ms) m ms)
