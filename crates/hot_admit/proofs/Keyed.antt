-- The places of conditions by their names.
use Rattle.std.proofs.Common.{◌≡◌, ◌∙◌, ℕ, zero, suc, List, [], ◌∷◌, Some, Result, Ok, Err}
use Rattle.std.proofs.Common.{slice_get}
use Rattle.std.proofs.Common.{length, refl, sym, ap, subst}
use Rattle.std.specs.Cmp.Lexicographic.{slice_cmp}
use Rattle.std.specs.List.Sorted.{IsStrictlySortedBy}
use Rattle.std.specs.Ordering.{nat_cmp, match_ordering}
use Rattle.std.specs.declared.cmp.Ordering.{Ordering}
use Rattle.std.specs.declared.cmp.Ordering.TheVariants.{Less, Equal, Greater}
use Rattle.std.proofs.lemmas.Slice.Eq.{bytes_eq-Decides}
use Rattle.heat_value.proofs.Searches.{flipped, equal_by}
use Rattle.heat_value.specs.Data.{keys_of, Rises}
use Rattle.heat_value.specs.Meaning.{members_of}
use Rattle.heat_value.specs.Places.{place, one_further}
use Rattle.heat_value.specs.declared.value.Member.{Member}
use Rattle.traversal_graph.proofs.NeedMembers.{same_name}
use Rattle.hot_admit.proofs.Chosen.{Behind}

abbrev placed : Ordering → Result ℕ ℕ → Result ℕ ℕ
placed o r = match_ordering o (Err 0) (Ok 0) (one_further r)

further_ok : (r : Result ℕ ℕ) (i : ℕ) → one_further r ≡ Ok i → (j : ℕ) × (i ≡ suc j) × (r ≡ Ok j)
further_ok (Ok j) i e = (j, cc, refl)
further_ok (Err j) i e = cc

-- the condition at the place of a name has the name
pub named_at : (k : List ℕ) (ms : List Member) (i : ℕ) → place k ms ≡ Ok i
    → slice_get (keys_of (members_of ms)) i ≡ Some k
named_at k [] i e = cc
named_at k (m ∷ ms) i e = by (slice_cmp nat_cmp k m.key) refl e (λ j h. named_at k ms j h)
  where
    by : (o : Ordering) → slice_cmp nat_cmp k m.key ≡ o → placed o (place k ms) ≡ Ok i
        → ((j : ℕ) → place k ms ≡ Ok j → slice_get (keys_of (members_of ms)) j ≡ Some k)
        → slice_get (m.key ∷ keys_of (members_of ms)) i ≡ Some k
    by Less is h more = cc
    by Equal is h more =
        let here : i ≡ 0 = cc in
        let same : m.key ≡ k = (bytes_eq-Decides m.key k).0 (equal_by k m.key Equal is) in
        subst (λ (n : ℕ). slice_get (m.key ∷ keys_of (members_of ms)) n ≡ Some k) (sym here) (ap Some same)
    by Greater is h more =
        let there = further_ok (place k ms) i h in
        subst (λ (n : ℕ). slice_get (m.key ∷ keys_of (members_of ms)) n ≡ Some k) (sym there.1) (more there.0 there.2)

pub behind_at : (n : List ℕ) (ks : List (List ℕ)) (i : ℕ) (k : List ℕ) → Behind n ks → slice_get ks i ≡ Some k
    → slice_cmp nat_cmp n k ≡ Less
behind_at n [] i k all at = cc
behind_at n (l ∷ ks) zero k all at =
    let is : l ≡ k = cc in subst (λ (z : List ℕ). slice_cmp nat_cmp n z ≡ Less) is all.0
behind_at n (l ∷ ks) (suc i) k all at = behind_at n ks i k all.1 at

-- where a condition has the name, its place is the name's
pub is_at : (k : List ℕ) (ms : List Member) (i : ℕ) → Rises (members_of ms)
    → slice_get (keys_of (members_of ms)) i ≡ Some k → place k ms ≡ Ok i
unfolding IsStrictlySortedBy
is_at k [] i up at = cc
is_at k (m ∷ ms) zero up at =
    let is : m.key ≡ k = cc in
    ap (λ o. placed o (place k ms)) (subst (λ (z : List ℕ). slice_cmp nat_cmp k z ≡ Equal) (sym is) (same_name k))
is_at k (m ∷ ms) (suc i) up at =
    let later : slice_cmp nat_cmp k m.key ≡ Greater =
    flipped m.key k Less (behind_at m.key (keys_of (members_of ms)) i k up.0 at) in
    ap (λ o. placed o (place k ms)) later ∙ ap one_further (is_at k ms i up.1 at)

pub keys_count : (ms : List Member) → length (keys_of (members_of ms)) ≡ length ms
keys_count [] = refl
keys_count (m ∷ ms) = ap suc (keys_count ms)
