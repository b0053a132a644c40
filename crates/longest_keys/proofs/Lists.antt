-- What stands at the places of a list that grew or in which one item was set.
use Rattle.std.proofs.Common.{◌≡◌, ◌≢◌, ◌<◌, ℕ, zero, suc, List, [], ◌∷◌, ◌++◌, length, set, get_or, drop, ◌⊎◌, inl, inr, Bool, true, false, Some, refl, ap, sym, ◌∙◌, subst, arith}
use Rattle.std.specs.Bool.{◌==◌}
use Rattle.std.specs.List.{All, slice_get}
use Rattle.std.proofs.lemmas.Bool.Decides.{Decides-eqb}
use Rattle.std.proofs.lemmas.List.{nil_from_length}
use Rattle.std.proofs.lemmas.Option.{slice_get-get_or, slice_get_within, get_or_from_slice_get}

pub one_at : {A : Type 0} (xs : List A) (i : ℕ) (x y : A) → slice_get xs i ≡ Some x → slice_get xs i ≡ Some y → x ≡ y
one_at xs i x y e f = let both : Some x ≡ Some y = sym e ∙ f in cc

pub got_set : {A : Type 0} (xs : List A) (f : ℕ) (y : A) (b : ℕ) (p : A) → slice_get (set xs f y) b ≡ Some p → ((b ≡ f) × (y ≡ p)) ⊎ ((b ≢ f) × (slice_get xs b ≡ Some p))
got_set [] f y b p e = cc
got_set (x ∷ xs) zero y zero p e = let same : y ≡ p = cc in inl (refl, same)
got_set (x ∷ xs) zero y (suc b) p e = inr (λ h. cc, e)
got_set (x ∷ xs) (suc f) y zero p e = inr (λ h. cc, e)
got_set {A} (x ∷ xs) (suc f) y (suc b) p e = go (got_set xs f y b p e)
  where
    go : ((b ≡ f) × (y ≡ p)) ⊎ ((b ≢ f) × (slice_get xs b ≡ Some p)) → ((suc b ≡ suc f) × (y ≡ p)) ⊎ ((suc b ≢ suc f) × (slice_get xs b ≡ Some p))
    go (inl (h, same)) = inl (ap suc h, same)
    go (inr (h, same)) = inr (λ e. h (omega (arith, e)), same)

pub set_here : {A : Type 0} (xs : List A) (i : ℕ) (y : A) → i < length xs → slice_get (set xs i y) i ≡ Some y
set_here [] i y l = absurd (omega arith)
set_here (x ∷ xs) zero y l = refl
set_here (x ∷ xs) (suc i) y l = set_here xs i y (omega arith)

pub set_else : {A : Type 0} (xs : List A) (f : ℕ) (y : A) (i : ℕ) (x : A) → i ≢ f → slice_get xs i ≡ Some x → slice_get (set xs f y) i ≡ Some x
set_else [] f y i x other e = e
set_else (w ∷ xs) zero y zero x other e = absurd (other refl)
set_else (w ∷ xs) zero y (suc i) x other e = e
set_else (w ∷ xs) (suc f) y zero x other e = e
set_else (w ∷ xs) (suc f) y (suc i) x other e = set_else xs f y i x (λ h. other (ap suc h)) e

pub got_push : {A : Type 0} (xs : List A) (y : A) (i : ℕ) (x : A) → slice_get (xs ++ y ∷ []) i ≡ Some x → (slice_get xs i ≡ Some x) ⊎ ((i ≡ length xs) × (y ≡ x))
got_push [] y zero x e = let same : y ≡ x = cc in inr (refl, same)
got_push [] y (suc i) x e = cc
got_push (w ∷ xs) y zero x e = inl e
got_push {A} (w ∷ xs) y (suc i) x e = go (got_push xs y i x e)
  where
    go : (slice_get xs i ≡ Some x) ⊎ ((i ≡ length xs) × (y ≡ x)) → (slice_get xs i ≡ Some x) ⊎ ((suc i ≡ suc (length xs)) × (y ≡ x))
    go (inl h) = inl h
    go (inr (h, same)) = inr (ap suc h, same)

pub push_old : {A : Type 0} (xs : List A) (y : A) (i : ℕ) (x : A) → slice_get xs i ≡ Some x → slice_get (xs ++ y ∷ []) i ≡ Some x
push_old [] y i x e = cc
push_old (w ∷ xs) y zero x e = e
push_old (w ∷ xs) y (suc i) x e = push_old xs y i x e

pub push_here : {A : Type 0} (xs : List A) (y : A) → slice_get (xs ++ y ∷ []) (length xs) ≡ Some y
push_here [] y = refl
push_here (w ∷ xs) y = push_here xs y

pub got_at : {A : Type 0} (xs : List A) (i : ℕ) → i < length xs → (x : A) × (slice_get xs i ≡ Some x)
got_at [] i l = absurd (omega arith)
got_at (x ∷ xs) zero l = (x, refl)
got_at (x ∷ xs) (suc i) l = got_at xs i (omega arith)

-- what holds of all holds of what stands at each place, and the other way round
pub all_got : {A : Type 0} (P : A → Type 0) (xs : List A) (i : ℕ) (x : A) → All P xs → slice_get xs i ≡ Some x → P x
all_got P xs i x all e = subst P (get_or_from_slice_get xs i x x e) (all i x (slice_get_within xs i x e))

pub got_all : {A : Type 0} (P : A → Type 0) (xs : List A) → ((i : ℕ) (x : A) → slice_get xs i ≡ Some x → P x) → All P xs
got_all P xs each i d l = each i (get_or xs i d) (slice_get-get_or xs i d l)

pub drop_end : {A : Type 0} (xs : List A) → drop (length xs) xs ≡ []
drop_end [] = refl
drop_end (x ∷ xs) = drop_end xs

pub drop_next : {A : Type 0} (xs : List A) (i : ℕ) (d : A) → i < length xs → drop i xs ≡ get_or xs i d ∷ drop (suc i) xs
drop_next [] i d l = absurd (omega arith)
drop_next (x ∷ xs) zero d l = refl
drop_next (x ∷ xs) (suc i) d l = drop_next xs i d (omega arith)

pub drop_one : {A : Type 0} (xs : List A) (i j : ℕ) (d : A) → j ≡ suc i → i < length xs → drop i xs ≡ get_or xs i d ∷ drop j xs
drop_one xs i j d e l = drop_next xs i d l ∙ ap (λ (n : ℕ). get_or xs i d ∷ drop n xs) (sym e)

-- what a test for no item tells
pub none_told : {A : Type 0} (xs : List A) (b : Bool) → b ≡ (length xs == 0) → b ≡ true → xs ≡ []
none_told xs b e is = nil_from_length xs ((Decides-eqb (length xs) 0).0 (sym e ∙ is))

pub some_told : {A : Type 0} (xs : List A) (b : Bool) → b ≡ (length xs == 0) → b ≡ false → xs ≢ []
some_told xs b e is none = let both : true ≡ false = sym ((Decides-eqb (length xs) 0).1 (ap length none)) ∙ (sym e ∙ is) in cc
