-- What holds of each item of a list.
use Rattle.std.proofs.Common.{ℕ, zero, suc, List, [], ◌∷◌, ◌++◌, ◌+◌, ◌<◌, ◌≡◌, ◌≤◌, ◌↔◌, ◌∙◌, ap, arith, drop, get_or}
use Rattle.std.proofs.Common.{length, refl, subst, sym}
use Rattle.std.specs.Prelude.{All, Contains}
use Rattle.std.proofs.lemmas.List.{drop_all, drop_more}

-- what is left of a list from the place i on begins with the item there
pub left_at : {X : Type 0} (xs : List X) (i : ℕ) (x : X) → i < length xs → x ≡ get_or xs i x
    → drop i xs ≡ x ∷ drop (i + 1) xs
left_at xs i x lt is = drop_more xs i x lt ∙ ap (λ (y : _). y ∷ drop (i + 1) xs) (sym is)

module _ {X : Type 0} (P : X → Type 0) where
  pub All-none : All P []
  All-none k d lt = absurd (omega (arith, lt))

  pub All-more : (x : X) (xs : List X) → P x → All P xs → All P (x ∷ xs)
  All-more x xs first rest zero d lt = first
  All-more x xs first rest (suc k) d lt = rest k d (omega (arith, lt))

  pub All-first : (x : X) (xs : List X) → All P (x ∷ xs) → P x
  All-first x xs all = all 0 x (omega arith)

  pub All-rest : (x : X) (xs : List X) → All P (x ∷ xs) → All P xs
  All-rest x xs all k d lt = all (suc k) d (omega (arith, lt))

  pub All-both : (xs ys : List X) → All P xs → All P ys → All P (xs ++ ys)
  All-both [] ys h i = i
  All-both (x ∷ xs) ys h i = All-more x (xs ++ ys) (All-first x xs h) (All-both xs ys (All-rest x xs h) i)

  pub All-from : (xs : List X) → ((x : X) → Contains xs x → P x) → All P xs
  All-from [] h = All-none
  All-from (x ∷ xs) h = All-more x xs (h x (0, omega arith, refl)) (All-from xs (λ y c. h y (suc c.0, omega (arith, c.1), c.2)))

  -- whether all of a list are so is decided by those that are left, once the others are
  pub all_left : (xs : List X) (i : ℕ) (x : X) → i < length xs → x ≡ get_or xs i x → P x
      → All P xs ↔ All P (drop i xs) → All P xs ↔ All P (drop (i + 1) xs)
  all_left xs i x lt is first left =
      let at = left_at xs i x lt is in (
        λ all. All-rest x (drop (i + 1) xs) (subst (All P) at (left.0 all)),
        λ rest. left.1 (subst (All P) (sym at) (All-more x (drop (i + 1) xs) first rest)),
      )

  pub not_all : (xs : List X) (i : ℕ) (x : X) → i < length xs → x ≡ get_or xs i x → (P x → ⊥)
      → All P xs ↔ All P (drop i xs) → All P xs → ⊥
  not_all xs i x lt is none left all =
      none (All-first x (drop (i + 1) xs) (subst (All P) (left_at xs i x lt is) (left.0 all)))

  pub all_of : (xs : List X) (i : ℕ) → length xs ≤ i → All P xs ↔ All P (drop i xs) → All P xs
  all_of xs i end left = left.1 (subst (All P) (sym (drop_all i xs end)) All-none)
