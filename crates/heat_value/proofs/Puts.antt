-- A map with one more member, or with another value under a key.
use Rattle.std.proofs.Common.{◌≡◌, ◌∙◌, ℕ, suc, List, [], ◌∷◌, refl, ap, Result, Ok, Err, insert, slice_set}
use Rattle.std.proofs.lemmas.Cmp.{nat_list_cmp_total}
use Rattle.std.specs.List.{AllByRecursion}
use Rattle.std.specs.List.Sorted.{IsStrictlySortedBy}
use Rattle.std.specs.Ordering.{nat_cmp, match_ordering, ordering_reverse}
use Rattle.std.specs.Cmp.Lexicographic.{slice_cmp}
use Rattle.std.specs.declared.cmp.Ordering.{Ordering}
use Rattle.std.specs.declared.cmp.Ordering.TheVariants.{Less, Equal, Greater}
use Rattle.heat_value.specs.Data.{Data, Members, no_members, member, keys_of, Rises, put}
use Rattle.heat_value.specs.Meaning.{data_of, members_of}
use Rattle.heat_value.specs.Places.{place, one_further}
use Rattle.heat_value.proofs.Searches.{below_all}
use Rattle.heat_value.specs.declared.value.Value.{Value}
use Rattle.heat_value.specs.declared.value.Member.{Member}

abbrev cmp : List ℕ → List ℕ → Ordering
cmp = slice_cmp nat_cmp

-- ---- the keys still rise

same_below : (k l : List ℕ) (ks : List (List ℕ)) → cmp k l ≡ Equal → AllByRecursion (λ y. cmp l y ≡ Less) ks → AllByRecursion (λ y. cmp k y ≡ Less) ks
same_below k l [] h all = tt
same_below k l (y ∷ ys) h all = (nat_list_cmp_total.congr k l y h ∙ all.0, same_below k l ys h all.1)

below_put : (l k : List ℕ) (d : Data) (ms : Members) → cmp l k ≡ Less → AllByRecursion (λ y. cmp l y ≡ Less) (keys_of ms) → AllByRecursion (λ y. cmp l y ≡ Less) (keys_of (put k d ms))
below_put l k d no_members h all = (h, tt)
below_put l k d (member m e ms) h all =
    elim (cmp k m) as (λ o. AllByRecursion (λ y. cmp l y ≡ Less) (keys_of (match_ordering o (member k d (member m e ms)) (member k d ms) (member m e (put k d ms)))))
    [ Less ↦ (h, all) | Equal ↦ (h, all.1) | Greater ↦ (all.0, below_put l k d ms h all.1) ]

rises_at : (k : List ℕ) (d : Data) (l : List ℕ) (e : Data) (ms : Members) (o : Ordering) → cmp k l ≡ o → AllByRecursion (λ y. cmp l y ≡ Less) (keys_of ms) → Rises ms → Rises (put k d ms)
    → Rises (match_ordering o (member k d (member l e ms)) (member k d ms) (member l e (put k d ms)))
unfolding IsStrictlySortedBy
rises_at k d l e ms Less is below rest more = ((is, below_all k l (keys_of ms) is below), (below, rest))
rises_at k d l e ms Equal is below rest more = (same_below k l (keys_of ms) is below, rest)
rises_at k d l e ms Greater is below rest more =
    let flipped : cmp l k ≡ Less = nat_list_cmp_total.antisymm l k ∙ ap ordering_reverse is in
    (below_put l k d ms flipped below, more)

pub Rises-put : (k : List ℕ) (d : Data) (ms : Members) → Rises ms → Rises (put k d ms)
unfolding IsStrictlySortedBy
Rises-put k d no_members h = (tt, tt)
Rises-put k d (member l e ms) h = rises_at k d l e ms (cmp k l) refl h.0 h.1 (Rises-put k d ms h.1)

-- ---- the members are those of the put

abbrev one : List ℕ → Value → Member
one k v = record { key = k; value = v }

inserted_at : (k : List ℕ) (v : Value) (e : Member) (es : List Member) (i : ℕ) (o : Ordering) (r : Result ℕ ℕ) → ((j : ℕ) → r ≡ Err j → members_of (insert es j (one k v)) ≡ put k (data_of v) (members_of es))
    → match_ordering o (Err 0) (Ok 0) (one_further r) ≡ Err i
    → members_of (insert (e ∷ es) i (one k v)) ≡ match_ordering o (member k (data_of v) (members_of (e ∷ es))) (member k (data_of v) (members_of es)) (member e.key (data_of e.value) (put k (data_of v) (members_of es)))
inserted_at k v e es i Less r more is = let at : 0 ≡ i = cc in rw (← at) refl
inserted_at k v e es i Equal r more is = cc
inserted_at k v e es i Greater (Ok j) more is = cc
inserted_at k v e es i Greater (Err j) more is = let at : suc j ≡ i = cc in rw (← at) (ap (member e.key (data_of e.value)) (more j refl))

pub members_of-insert : (k : List ℕ) (v : Value) (es : List Member) (i : ℕ) → place k es ≡ Err i → members_of (insert es i (one k v)) ≡ put k (data_of v) (members_of es)
members_of-insert k v [] i is = let at : 0 ≡ i = cc in rw (← at) refl
members_of-insert k v (e ∷ es) i is = inserted_at k v e es i (cmp k e.key) (place k es) (λ j is_j. members_of-insert k v es j is_j) is

replaced_at : (k : List ℕ) (v : Value) (e : Member) (es : List Member) (i : ℕ) (o : Ordering) (r : Result ℕ ℕ) → ((j : ℕ) → r ≡ Ok j → members_of (slice_set es j (one k v)) ≡ put k (data_of v) (members_of es))
    → match_ordering o (Err 0) (Ok 0) (one_further r) ≡ Ok i
    → members_of (slice_set (e ∷ es) i (one k v)) ≡ match_ordering o (member k (data_of v) (members_of (e ∷ es))) (member k (data_of v) (members_of es)) (member e.key (data_of e.value) (put k (data_of v) (members_of es)))
replaced_at k v e es i Less r more is = cc
replaced_at k v e es i Equal r more is = let at : 0 ≡ i = cc in rw (← at) refl
replaced_at k v e es i Greater (Ok j) more is = let at : suc j ≡ i = cc in rw (← at) (ap (member e.key (data_of e.value)) (more j refl))
replaced_at k v e es i Greater (Err j) more is = cc

pub members_of-set : (k : List ℕ) (v : Value) (es : List Member) (i : ℕ) → place k es ≡ Ok i → members_of (slice_set es i (one k v)) ≡ put k (data_of v) (members_of es)
members_of-set k v [] i is = cc
members_of-set k v (e ∷ es) i is = replaced_at k v e es i (cmp k e.key) (place k es) (λ j is_j. members_of-set k v es j is_j) is
