-- Elements of lists of states.
use Rattle.std.proofs.Common.{◌≡◌, ◌⊎◌, ◌<◌, Bool, true, false, not, cond, List, [], ◌∷◌, ◌++◌, length, zero, suc, refl, arith, inl, inr}
use Rattle.std.specs.Prelude.{Contains, filter, flat_map}
use Rattle.std.proofs.lemmas.List.Elements.{Contains-append_left, Contains-append_right}
use Rattle.provider.specs.Table.{TokenState, same_state, once}
use Rattle.provider.proofs.Sames.{same_state-true}

module _ {X : Type 0} where
  pub here : (x y : X) (xs : List X) → y ≡ x → Contains (y ∷ xs) x
  here x y xs e = (0, omega arith, e)

  pub there : (x y : X) (xs : List X) → Contains xs x → Contains (y ∷ xs) x
  there x y xs c = (suc c.0, omega (arith, c.1), c.2)

  split : (x y : X) (xs : List X) (k : _) → k < length (y ∷ xs) → Rattle.std.specs.Prelude.slice_index_or (y ∷ xs) k x ≡ x → (y ≡ x) ⊎ Contains xs x
  split x y xs zero lt at = inl at
  split x y xs (suc k) lt at = inr (k, omega (arith, lt), at)

  pub cases : (x y : X) (xs : List X) → Contains (y ∷ xs) x → (y ≡ x) ⊎ Contains xs x
  cases x y xs c = split x y xs c.0 c.1 c.2

  pub Contains-filter : (p : X → Bool) (x : X) (xs : List X) → p x ≡ true → Contains xs x → Contains (filter p xs) x
  Contains-filter p x [] h c = c
  Contains-filter p x (y ∷ ys) h c = kept (p y) refl (cases x y ys c) (Contains-filter p x ys h) where
    kept : (b : Bool) → p y ≡ b → (y ≡ x) ⊎ Contains ys x → (Contains ys x → Contains (filter p ys) x) → Contains (cond b (y ∷ filter p ys) (filter p ys)) x
    kept true e (inl same) more = here x y (filter p ys) same
    kept true e (inr rest) more = there x y (filter p ys) (more rest)
    kept false e (inl same) more = let no_more : p x ≡ false = rw (← same) e in cc
    kept false e (inr rest) more = more rest

  pub Contains-flat_map : {A : Type 0} (f : X → List A) (x : X) (y : A) (xs : List X) → Contains xs x → Contains (f x) y → Contains (flat_map f xs) y
  Contains-flat_map f x y [] c d = absurd (omega (arith, c.1))
  Contains-flat_map f x y (z ∷ zs) c d = step (cases x z zs c) (λ rest. Contains-flat_map f x y zs rest d) where
    step : (z ≡ x) ⊎ Contains zs x → (Contains zs x → Contains (flat_map f zs) y) → Contains (f z ++ flat_map f zs) y
    step (inl same) more = Contains-append_left (f z) (flat_map f zs) y (rw same d)
    step (inr rest) more = Contains-append_right (f z) (flat_map f zs) y (more rest)

pub Contains-once : (s : TokenState) (states : List TokenState) → Contains states s → Contains (once states) s
Contains-once s [] c = c
Contains-once s (y ∷ ys) c = step (same_state y s) refl (cases s y ys c) (Contains-once s ys) where
  step : (b : Bool) → same_state y s ≡ b → (y ≡ s) ⊎ Contains ys s → (Contains ys s → Contains (once ys) s) → Contains (once (y ∷ ys)) s
  step b e (inl same) more = here s y (filter (λ r. not (same_state y r)) (once ys)) same
  step true e (inr rest) more = here s y (filter (λ r. not (same_state y r)) (once ys)) (same_state-true y s e)
  step false e (inr rest) more = there s y (filter (λ r. not (same_state y r)) (once ys)) (Contains-filter (λ r. not (same_state y r)) s (once ys) (rw e refl) (more rest))
