-- Lists in which no item stands twice: what is put behind them, and what is taken out.
use Rattle.std.proofs.Common.{inl, inr, Bool, true, false, cond, List, [], ◌∷◌, ◌++◌, append_assoc, subst}
use Rattle.std.specs.Prelude.{Contains, filter}
use Rattle.std.proofs.lemmas.List.Elements.{Contains-append_left, Contains-push, Contains-push_cases}
use Rattle.state_images.specs.Formed.{AreNew}

module _ {A : Type 0} where
  pub new_push : (before xs : List A) (x : A) → AreNew before xs → ¬ Contains (before ++ xs) x → AreNew before (xs ++ x ∷ [])
  new_push before [] x h n = (λ c. n (Contains-append_left before [] x c), tt)
  new_push before (y ∷ ys) x h n =
      (h.0, new_push (before ++ y ∷ []) ys x h.1 (λ c. n (subst (λ (zs : List A). Contains zs x) (append_assoc before (y ∷ []) ys) c)))

  -- all of the one list stand in the other
  abbrev pub IsAmong : List A → List A → Type 0
  IsAmong xs ys = (x : A) → Contains xs x → Contains ys x

  among_push : (xs ys : List A) (y : A) → IsAmong xs ys → IsAmong (xs ++ y ∷ []) (ys ++ y ∷ [])
  among_push xs ys y h x c = elim (Contains-push_cases xs y x c) [
    | inl old ↦ Contains-append_left ys (y ∷ []) x (h x old)
    | inr is ↦ subst (Contains (ys ++ y ∷ [])) is (Contains-push ys y)
  ]

  among_more : (xs ys : List A) (y : A) → IsAmong xs ys → IsAmong xs (ys ++ y ∷ [])
  among_more xs ys y h x c = Contains-append_left ys (y ∷ []) x (h x c)

  pub new_filter : (test : A → Bool) (fewer before xs : List A) → IsAmong fewer before → AreNew before xs → AreNew fewer (filter test xs)
  new_filter test fewer before [] h n = tt
  new_filter test fewer before (x ∷ xs) h n = by (test x)
      (new_filter test (fewer ++ x ∷ []) (before ++ x ∷ []) xs (among_push fewer before x h) n.1)
      (new_filter test fewer (before ++ x ∷ []) xs (among_more fewer before x h) n.1) where
        by : (b : Bool) → AreNew (fewer ++ x ∷ []) (filter test xs) → AreNew fewer (filter test xs)
            → AreNew fewer (cond b (x ∷ filter test xs) (filter test xs))
        by true kept left = (λ c. n.0 (h x c), kept)
        by false kept left = left
