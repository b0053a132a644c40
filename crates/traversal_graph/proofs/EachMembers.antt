-- What stands in a list that is made of each item and its place.
use Rattle.std.proofs.Common.{◌≡◌, ◌⊎◌, ℕ, zero, suc, ◌+◌, ◌<◌, Bool, true, false, List, [], ◌∷◌, ◌++◌, Some, get_or, refl, sym, ap, subst, ◌∙◌, inl, inr, arith}
use Rattle.std.specs.Prelude.{AllPairs, Contains, slice_get}
use Rattle.std.proofs.lemmas.List.Elements.{Contains-append_left, Contains-append_right, Contains-append_cases, Contains-get_or}
use Rattle.std.proofs.lemmas.Option.{slice_get_within, same_Some}
use Rattle.traversal_graph.specs.Candidates.{each_from, edge_if}

-- what a list has at its front
pub Contains-front : {A : Type 0} (x : A) (xs : List A) → Contains (x ∷ xs) x
Contains-front x xs = (0, omega arith, refl)

-- an edge where the test passes
pub in_if : (passes : Bool) (before after : ℕ) (p : ℕ × ℕ) → Contains (edge_if passes before after) p
    → (passes ≡ true) × ((before, after) ≡ p)
in_if false before after p (k, lt, e) = absurd (omega arith)
in_if true before after p (zero, lt, e) = (refl, e)
in_if true before after p (suc k, lt, e) = absurd (omega arith)

pub to_if : (passes : Bool) (before after : ℕ) → passes ≡ true → Contains (edge_if passes before after) (before, after)
to_if passes before after e = rw e (Contains-front (before, after) [])

module _ {A : Type 0} (f : ℕ → A → List (ℕ × ℕ)) where
  -- what stands there comes of one item
  pub in_each : (place : ℕ) (xs : List A) (p : ℕ × ℕ) → Contains (each_from place xs f) p
      → (i : ℕ) × (x : A) × (slice_get xs i ≡ Some x) × Contains (f (place + i) x) p
  in_each place [] p (k, lt, e) = absurd (omega arith)
  in_each place (x ∷ xs) p c = elim (Contains-append_cases (f place x) (each_from (place + 1) xs f) p c) [
    | inl k ↦ (0, x, refl, (let Q : ℕ → Type 0 = λ n. Contains (f n x) p in subst Q {x = place} {y = place + 0} (omega arith) k))
    | inr k ↦ (let more = in_each (place + 1) xs p k in
        let Q : ℕ → Type 0 = λ n. Contains (f n more.1) p in
        (suc more.0, more.1, more.2, subst Q {x = place + 1 + more.0} {y = place + suc more.0} (omega arith) more.3))
  ]

  -- what comes of an item stands there
  pub to_each : (place : ℕ) (xs : List A) (i : ℕ) (x : A) (p : ℕ × ℕ) → slice_get xs i ≡ Some x → Contains (f (place + i) x) p
      → Contains (each_from place xs f) p
  to_each place [] i x p at c = absurd (omega (arith, slice_get_within [] i x at))
  to_each place (y ∷ xs) zero x p at c =
      let Q : ℕ → Type 0 = λ n. Contains (f n y) p in
      let P : A → Type 0 = λ z. Contains (f (place + 0) z) p in
      Contains-append_left (f place y) (each_from (place + 1) xs f) p
      (subst Q {x = place + 0} {y = place} (omega arith) (subst P (sym (same_Some y x at)) c))
  to_each place (y ∷ xs) (suc i) x p at c =
      let Q : ℕ → Type 0 = λ n. Contains (f n x) p in
      Contains-append_right (f place y) (each_from (place + 1) xs f) p
      (to_each (place + 1) xs i x p at (subst Q {x = place + suc i} {y = place + 1 + i} (omega arith) c))

-- pairs by their first and then by their second
abbrev pub Before : ℕ × ℕ → ℕ × ℕ → Type 0
Before x y = (x.0 < y.0) ⊎ ((x.0 ≡ y.0) × (x.1 < y.1))

pub Rises-none : AllPairs Before []
Rises-none i j d lt inside = absurd (omega arith)

Rises-cons : (x : ℕ × ℕ) (ys : List (ℕ × ℕ)) → ((y : ℕ × ℕ) → Contains ys y → Before x y) → AllPairs Before ys → AllPairs Before (x ∷ ys)
Rises-cons x ys first rest i zero d lt inside = absurd (omega arith)
Rises-cons x ys first rest zero (suc j) d lt inside = first (get_or ys j d) (Contains-get_or ys j d (omega arith))
Rises-cons x ys first rest (suc i) (suc j) d lt inside = rest i j d (omega arith) (omega arith)

-- a front is before what stands behind it
front_before : (x : ℕ × ℕ) (xs : List (ℕ × ℕ)) → AllPairs Before (x ∷ xs) → (y : ℕ × ℕ) → Contains xs y → Before x y
front_before x xs up y c =
    let B : ℕ × ℕ → Type 0 = λ z. Before x z in
    subst B c.2 (up 0 (suc c.0) y (omega arith) (omega (arith, c.1)))

-- two lists of which the one is before the other
pub Rises-append : (xs ys : List (ℕ × ℕ)) → AllPairs Before xs → AllPairs Before ys
    → ((x y : ℕ × ℕ) → Contains xs x → Contains ys y → Before x y) → AllPairs Before (xs ++ ys)
Rises-append [] ys up up' across = up'
Rises-append (x ∷ xs) ys up up' across = Rises-cons x (xs ++ ys)
    (λ y c. elim (Contains-append_cases xs ys y c) [
      | inl k ↦ front_before x xs up y k
      | inr k ↦ across x y (Contains-front x xs) k
    ])
    (Rises-append xs ys (λ i j d lt inside. up (suc i) (suc j) d (omega arith) (omega arith)) up'
    (λ y z c k. across y z (Contains-append_right (x ∷ []) xs y c) k))

-- lists that rise, each with a greater first, are a list that rises
pub Rises-each : {A : Type 0} (f : ℕ → A → List (ℕ × ℕ)) (key : ℕ → ℕ) → ((i j : ℕ) → i < j → key i < key j)
    → ((i : ℕ) (x : A) → AllPairs Before (f i x)) → ((i : ℕ) (x : A) (p : ℕ × ℕ) → Contains (f i x) p → p.0 ≡ key i)
    → (place : ℕ) (xs : List A) → AllPairs Before (each_from place xs f)
Rises-each f key up rise first place [] = Rises-none
Rises-each f key up rise first place (x ∷ xs) =
    Rises-append (f place x) (each_from (place + 1) xs f) (rise place x) (Rises-each f key up rise first (place + 1) xs)
    (λ p q c k. (let later = in_each f (place + 1) xs q k in
    inl (omega (arith, first place x p c, first (place + 1 + later.0) later.1 q later.3, up place (place + 1 + later.0) (omega arith)))))

-- the same where all have one first, by the second
pub Rises-second : {A : Type 0} (f : ℕ → A → List (ℕ × ℕ)) (before : ℕ) (key : ℕ → ℕ) → ((i j : ℕ) → i < j → key i < key j)
    → ((i : ℕ) (x : A) → AllPairs Before (f i x)) → ((i : ℕ) (x : A) (p : ℕ × ℕ) → Contains (f i x) p → p ≡ (before, key i))
    → (place : ℕ) (xs : List A) → AllPairs Before (each_from place xs f)
Rises-second f before key up rise first place [] = Rises-none
Rises-second f before key up rise first place (x ∷ xs) =
    Rises-append (f place x) (each_from (place + 1) xs f) (rise place x) (Rises-second f before key up rise first (place + 1) xs)
    (λ p q c k. (let later = in_each f (place + 1) xs q k in
    let a = first place x p c in
    let b = first (place + 1 + later.0) later.1 q later.3 in
    inr (
      ap (λ (z : ℕ × ℕ). z.0) a ∙ sym (ap (λ (z : ℕ × ℕ). z.0) b),
      omega (arith, ap (λ (z : ℕ × ℕ). z.1) a, ap (λ (z : ℕ × ℕ). z.1) b, up place (place + 1 + later.0) (omega arith)),
    )))

-- one edge, or none, rises
pub Rises-if : (passes : Bool) (before after : ℕ) → AllPairs Before (edge_if passes before after)
Rises-if true before after i j d lt inside = absurd (omega arith)
Rises-if false before after i j d lt inside = absurd (omega arith)
