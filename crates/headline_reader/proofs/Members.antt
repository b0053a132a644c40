-- What holds of some of a list, and of all of it.
use Rattle.std.proofs.Common.{◌≡◌, zero, suc, Bool, true, false, ◌||◌, List, [], ◌∷◌, ◌++◌, refl, subst, ap, ◌∙◌, arith}
use Rattle.std.specs.Prelude.{All, Any, Contains}
use Rattle.std.specs.List.{list_any}

module _ {X : Type 0} (P : X → Type 0) where
  pub all_at : (xs : List X) → All P xs → (x : X) → Contains xs x → P x
  all_at xs all x c = subst P c.2 (all c.0 x c.1)

  pub any_first : (x : X) (xs : List X) → P x → Any P (x ∷ xs)
  any_first x xs h = (0, x, omega arith, refl, h)

  pub any_more : (x : X) (xs : List X) → Any P xs → Any P (x ∷ xs)
  any_more x xs (k, y, lt, at, h) = (suc k, y, omega (arith, lt), at, h)

  pub any_behind : (xs ys : List X) → Any P ys → Any P (xs ++ ys)
  any_behind [] ys h = h
  any_behind (x ∷ xs) ys h = any_more x (xs ++ ys) (any_behind xs ys h)

  pub any_before : (xs ys : List X) → Any P xs → Any P (xs ++ ys)
  any_before [] ys (k, y, lt, at, h) = absurd (omega (arith, lt))
  any_before (x ∷ xs) ys (zero, y, lt, at, h) = (0, y, omega arith, at, h)
  any_before (x ∷ xs) ys (suc k, y, lt, at, h) = any_more x (xs ++ ys) (any_before xs ys (k, y, omega (arith, lt), at, h))

  pub any_of : (xs : List X) (x : X) → Contains xs x → P x → Any P xs
  any_of xs x c h = (c.0, x, c.1, c.2, h)

pub first_in : {X : Type 0} (x : X) (xs : List X) → Contains (x ∷ xs) x
first_in x xs = (0, omega arith, refl)

-- one of the list passes the test
pub any_passes : {X : Type 0} (p : X → Bool) (xs : List X) (x : X) → Contains xs x → p x ≡ true → list_any p xs ≡ true
any_passes p [] x (k, lt, at) is = absurd (omega (arith, lt))
any_passes p (y ∷ ys) x (zero, lt, at) is = let e : p y ≡ true = ap p at ∙ is in rw e refl
any_passes p (y ∷ ys) x (suc k, lt, at) is = by (p y) (any_passes p ys x (k, omega (arith, lt), at) is) where
  by : (b : Bool) → list_any p ys ≡ true → (b || list_any p ys) ≡ true
  by true rest = refl
  by false rest = rest
