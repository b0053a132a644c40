-- A plan has one item of each name.
use Rattle.std.proofs.Common.{Equal, Greater, Less, List, Ordering, ap, arith, inl, inr, refl, subst, suc, sym, zero}
use Rattle.std.proofs.Common.{◌∙◌}
use Rattle.std.proofs.lemmas.Cmp.{nat_list_cmp_total}
use Rattle.std.proofs.lemmas.Option.{get_or_from_slice_get, slice_get_within}
use Rattle.std.proofs.lemmas.Slice.Eq.{bytes_eq-Decides}
use Rattle.std.specs.Cmp.Lexicographic.{slice_cmp}
use Rattle.std.specs.List.{AllByRecursion}
use Rattle.std.specs.List.Sorted.{IsStrictlySortedBy}
use Rattle.std.specs.Ordering.{nat_cmp, ordering_reverse}
use Rattle.std.specs.Prelude.{All, Contains, List, Some, [], bytes_eq, length, slice_get, ℕ, ◌<◌, ◌∷◌, ◌≡◌}
use Rattle.std.specs.declared.cmp.Ordering.{Ordering}
use Rattle.std.specs.declared.cmp.Ordering.TheVariants.{Equal, Greater, Less}
use Rattle.heat_plan.specs.Order.{Rising}
use Rattle.heat_plan.specs.Plans.{names_of}
use Rattle.heat_plan.specs.declared.item.Item.{Item}
use Rattle.traversal_graph.specs.Candidates.{each}
use Rattle.step_relation.specs.Reads.{item_at}
use Rattle.history_laws.proofs.tables.Rows.{same_some}
use Rattle.history_laws.proofs.tables.Tables.{at-key, at-place, at-some}
use Rattle.history_laws.proofs.agrees.Called.{none_in}
use Rattle.provider.proofs.Lists.{here, there, cases}

not_below : (n : List ℕ) → slice_cmp nat_cmp n n ≡ Less → ⊥
not_below n less = by (slice_cmp nat_cmp n n) less (nat_list_cmp_total.antisymm n n) where
  by : (o : Ordering) → o ≡ Less → o ≡ ordering_reverse o → ⊥
  by Less e f = cc
  by Equal e f = cc
  by Greater e f = cc

apart : (n : List ℕ) (xs : List Item) (k : ℕ) (y : Item) → AllByRecursion (λ m. slice_cmp nat_cmp n m ≡ Less)
    (names_of xs) → slice_get xs k ≡ Some y → n ≡ y.name → ⊥
apart n [] k y all h same = cc
apart n (x ∷ xs) zero y all h same =
    let is : x ≡ y = cc in
    not_below n (subst (λ (m : List ℕ). slice_cmp nat_cmp n m ≡ Less) (ap (λ (i : Item). i.name) is ∙ sym same) all.0)
apart n (x ∷ xs) (suc k) y all h same = apart n xs k y all.1 h same

name_once : (xs : List Item) → Rising (names_of xs) → (i k : ℕ) (x y : Item) → slice_get xs i ≡ Some x
    → slice_get xs k ≡ Some y → x.name ≡ y.name → i ≡ k
unfolding IsStrictlySortedBy
name_once [] rising i k x y a b same = cc
name_once (z ∷ zs) rising zero zero x y a b same = refl
name_once (z ∷ zs) rising zero (suc k) x y a b same = let is : z ≡ x = cc in
    absurd (apart z.name zs k y rising.0 b (ap (λ (j : Item). j.name) is ∙ same))
name_once (z ∷ zs) rising (suc i) zero x y a b same = let is : z ≡ y = cc in
    absurd (apart z.name zs i x rising.0 a (ap (λ (j : Item). j.name) is ∙ sym same))
name_once (z ∷ zs) rising (suc i) (suc k) x y a b same = ap suc (name_once zs rising.1 i k x y a b same)

item_asked : (xs : List Item) → Rising (names_of xs) → (i : ℕ) (x : Item) → slice_get xs i ≡ Some x
    → item_at xs x.name ≡ Some x
item_asked xs rising i x a =
    let (y, found) = at-some bytes_eq bytes_eq-Decides (λ (j : Item). j.name) xs i x a in
    let (k, there_) = at-place bytes_eq (λ (j : Item). j.name) xs x.name y found in
    let same : y.name ≡ x.name = at-key bytes_eq bytes_eq-Decides (λ (j : Item). j.name) xs x.name y found in
    let places : i ≡ k = name_once xs rising i k x y a there_ (sym same) in
    let is : y ≡ x = same_some y x (subst (λ (p : ℕ). slice_get xs p ≡ Some y) (sym places) there_) a in
    found ∙ ap (λ (j : Item). Some j) is

pub there_at : {X : Type 0} (xs : List X) (i : ℕ) → i < length xs → (x : X) × (slice_get xs i ≡ Some x)
there_at [] i lt = absurd (omega (arith, lt))
there_at (x ∷ xs) zero lt = (x, refl)
there_at (x ∷ xs) (suc i) lt = there_at xs i (omega (arith, lt))

-- what a list has stands at a place
pub contained : {X : Type 0} (xs : List X) (x : X) → Contains xs x → (i : ℕ) × (slice_get xs i ≡ Some x)
contained xs x c =
    let (y, at) = there_at xs c.0 c.1 in
    let read = get_or_from_slice_get xs c.0 y x at in
    let same : y ≡ x = sym read ∙ c.2 in
    (c.0, at ∙ ap Some same)

pub among_at : (xs : List Item) (x : Item) → Rising (names_of xs) → Contains xs x → item_at xs x.name ≡ Some x
among_at xs x rising c = let (i, at) = contained xs x c in item_asked xs rising i x at

-- an item is named by the names of its plan, and back
pub named_item : (xs : List Item) (n : List ℕ) → Contains (names_of xs) n → (x : Item) × Contains xs x × (x.name ≡ n)
named_item [] n c = absurd (none_in n c)
named_item (x ∷ xs) n c = elim (cases n x.name (names_of xs) c) [
  | inl is ↦ (x, here x x xs refl, is)
  | inr rest ↦ let (y, among, is) = named_item xs n rest in (y, there y x xs among, is)
]

-- the item that is found under a name stands in the plan
pub asked_among : (xs : List Item) (n : List ℕ) (x : Item) → item_at xs n ≡ Some x → Contains xs x × (x.name ≡ n)
asked_among xs n x found =
    let (k, at) = at-place bytes_eq (λ (j : Item). j.name) xs n x found in (
      (k, slice_get_within xs k x at, get_or_from_slice_get xs k x x at),
      at-key bytes_eq bytes_eq-Decides (λ (j : Item). j.name) xs n x found,
    )

pub all_at : {X : Type 0} (P : X → Type 0) (xs : List X) (x : X) → All P xs → Contains xs x → P x
all_at {X = X} P xs x all c = let (i, at) = contained xs x c in all_from xs x i all at where
  all_from : (ys : List X) (y : X) (i : ℕ) → All P ys → slice_get ys i ≡ Some y → P y
  all_from [] y i all at = cc
  all_from (z ∷ zs) y zero all at = let is : z ≡ y = cc in subst P is (all zero z (omega arith))
  all_from (z ∷ zs) y (suc i) all at = all_from zs y i (λ k d lt. all (suc k) d (omega (arith, lt))) at

pub All-among : {X : Type 0} (P : X → Type 0) (xs : List X) → ((x : X) → Contains xs x → P x) → All P xs
All-among P [] each k d lt = absurd (omega (arith, lt))
All-among P (x ∷ xs) each zero d lt = each x (here x x xs refl)
All-among P (x ∷ xs) each (suc k) d lt = All-among P xs (λ y c. each y (there y x xs c)) k d (omega (arith, lt))
