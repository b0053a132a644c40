-- What stands in a list that a function makes of another.
use Rattle.std.proofs.Common.{◌≡◌, inl, inr, ◌<◌, ◌+◌, ℕ, List, [], ◌∷◌, map, Some, get_or, length, sym, ap, ◌∙◌, subst, arith}
use Rattle.std.specs.Prelude.{All, Contains, flat_map, slice_get}
use Rattle.std.proofs.lemmas.Bool.{cases_lt}
use Rattle.std.proofs.lemmas.List.{get_or_default}
use Rattle.std.proofs.lemmas.List.Elements.{All-contains, Contains-append_cases, Contains-append_left, Contains-append_right, Contains-get_or}
use Rattle.std.proofs.lemmas.Option.{get_or_from_slice_get, slice_get-get_or, slice_get_within}
use Rattle.history_laws.proofs.tables.Puts.{contains_cases, contains_head, contains_none, contains_there}

pub map_has : {A B : Type 0} (f : A → B) (xs : List A) (x : A) → Contains xs x → Contains (map f xs) (f x)
map_has f [] x c = absurd (contains_none x c)
map_has f (y ∷ ys) x c = elim (contains_cases y x ys c) [
  | inl is ↦ subst (λ (z : _). Contains (f y ∷ map f ys) (f z)) is (contains_head (f y) (map f ys))
  | inr there ↦ contains_there (f y) (f x) (map f ys) (map_has f ys x there)
]

pub of_map : {A B : Type 0} (f : A → B) (xs : List A) (y : B) → Contains (map f xs) y → (x : A) × Contains xs x × (y ≡ f x)
of_map f [] y c = absurd (contains_none y c)
of_map f (x ∷ xs) y c = elim (contains_cases (f x) y (map f xs) c) [
  | inl is ↦ (x, contains_head x xs, sym is)
  | inr there ↦ (let (z, among, is) = of_map f xs y there in (z, contains_there x z xs among, is))
]

pub flat_has : {A B : Type 0} (f : A → List B) (xs : List A) (x : A) (y : B) → Contains xs x → Contains (f x) y
    → Contains (flat_map f xs) y
flat_has f [] x y c d = absurd (contains_none x c)
flat_has f (z ∷ zs) x y c d = elim (contains_cases z x zs c) [
  | inl is ↦ Contains-append_left (f z) (flat_map f zs) y (subst (λ (w : _). Contains (f w) y) (sym is) d)
  | inr there ↦ Contains-append_right (f z) (flat_map f zs) y (flat_has f zs x y there d)
]

pub of_flat : {A B : Type 0} (f : A → List B) (xs : List A) (y : B) → Contains (flat_map f xs) y
    → (x : A) × Contains xs x × Contains (f x) y
of_flat f [] y c = absurd (contains_none y c)
of_flat f (x ∷ xs) y c = elim (Contains-append_cases (f x) (flat_map f xs) y c) [
  | inl here ↦ (x, contains_head x xs, here)
  | inr there ↦ (let (z, among, its) = of_flat f xs y there in (z, contains_there x z xs among, its))
]

pub at_has : {A : Type 0} (xs : List A) (i : ℕ) (x : A) → slice_get xs i ≡ Some x → Contains xs x
at_has xs i x h = (i, slice_get_within xs i x h, get_or_from_slice_get xs i x x h)

pub has_at : {A : Type 0} (xs : List A) (x : A) → Contains xs x → (i : ℕ) × (slice_get xs i ≡ Some x)
has_at xs x (k, lt, is) = (k, slice_get-get_or xs k x lt ∙ ap Some is)

-- of all, or of each that stands in the list
pub each_of_all : {A : Type 0} (P : A → Type 0) (xs : List A) → All P xs → (x : A) → Contains xs x → P x
each_of_all P xs all x c = All-contains P xs x all c

pub all_of_each : {A : Type 0} (P : A → Type 0) (xs : List A) → ((x : A) → Contains xs x → P x) → All P xs
all_of_each P xs each k d lt = each _ (Contains-get_or xs k d lt)

-- of all before a place, and of what stands there
pub all_more : {A : Type 0} (P : A → Type 0) (xs : List A) (i : ℕ) (x : A) → i < length xs → get_or xs i x ≡ x → P x
    → ((k : ℕ) (d : A) → k < i → P (get_or xs k d)) → (k : ℕ) (d : A) → k < i + 1 → P (get_or xs k d)
all_more P xs i x lt is p before k d below = elim (cases_lt k i) [
  | inl less ↦ before k d less
  | inr le ↦ (let e : i ≡ k = omega (arith, below, le) in
      subst (λ (j : ℕ). P (get_or xs j d)) e (subst P (sym is ∙ get_or_default xs i x d lt) p))
]
