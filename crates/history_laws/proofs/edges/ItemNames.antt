-- A plan has one item of each name, at one place.
use Rattle.std.proofs.Common.{◌≡◌, ℕ, zero, suc, List, [], ◌∷◌, Some, refl, sym, ap, ◌∙◌, subst}
use Rattle.std.specs.Prelude.{slice_get}
use Rattle.std.proofs.Common.{Ordering, Less, Equal, Greater}
use Rattle.std.specs.Ordering.{nat_cmp, ordering_reverse}
use Rattle.std.specs.Cmp.Lexicographic.{slice_cmp}
use Rattle.std.specs.List.{AllByRecursion}
use Rattle.std.specs.List.Sorted.{IsStrictlySortedBy}
use Rattle.std.proofs.lemmas.Cmp.{nat_list_cmp_total}
use Rattle.heat_plan.specs.Order.{Rising}
use Rattle.heat_plan.specs.Plans.{names_of}
use Rattle.heat_plan.specs.declared.item.Item.{Item}

not_below : (n : List ℕ) → slice_cmp nat_cmp n n ≡ Less → ⊥
not_below n less = by (slice_cmp nat_cmp n n) less (nat_list_cmp_total.antisymm n n) where
  by : (o : Ordering) → o ≡ Less → o ≡ ordering_reverse o → ⊥
  by Less e f = cc
  by Equal e f = cc
  by Greater e f = cc

apart : (n : List ℕ) (xs : List Item) (k : ℕ) (y : Item)
    → AllByRecursion (λ m. slice_cmp nat_cmp n m ≡ Less) (names_of xs) → slice_get xs k ≡ Some y → n ≡ y.name → ⊥
apart n [] k y all h same = cc
apart n (x ∷ xs) zero y all h same =
    let is : x ≡ y = cc in
    not_below n (subst (λ (m : List ℕ). slice_cmp nat_cmp n m ≡ Less) (ap (λ (i : Item). i.name) is ∙ sym same) all.0)
apart n (x ∷ xs) (suc k) y all h same = apart n xs k y all.1 h same

pub name_once : (xs : List Item) → Rising (names_of xs) → (i k : ℕ) (x y : Item) → slice_get xs i ≡ Some x
    → slice_get xs k ≡ Some y → x.name ≡ y.name → i ≡ k
unfolding IsStrictlySortedBy
name_once [] rising i k x y a b same = cc
name_once (z ∷ zs) rising zero zero x y a b same = refl
name_once (z ∷ zs) rising zero (suc k) x y a b same = let is : z ≡ x = cc in
    absurd (apart z.name zs k y rising.0 b (ap (λ (j : Item). j.name) is ∙ same))
name_once (z ∷ zs) rising (suc i) zero x y a b same = let is : z ≡ y = cc in
    absurd (apart z.name zs i x rising.0 a (ap (λ (j : Item). j.name) is ∙ sym same))
name_once (z ∷ zs) rising (suc i) (suc k) x y a b same = ap suc (name_once zs rising.1 i k x y a b same)
