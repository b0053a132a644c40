-- Kinds that can be decided and are bounded have so many, be they numbers or numbers beside something.
use Rattle.std.proofs.Common.{◌≡◌, inl, inr, ◌<◌, ℕ, ◌*◌, List, [], ◌∷◌, ◌++◌, length, refl, sym, subst, arith}
use Rattle.std.specs.Prelude.{Contains}
use Rattle.std.proofs.lemmas.List.Elements.{Contains-append_cases, Contains-append_left, Contains-append_right}
use Rattle.next_laws.proofs.Listings.{cons_cases, in_head, in_tail, no_member}
use Rattle.next_laws.proofs.Decide.{Decided, member_or_not}
use Rattle.bound_laws.specs.Counts.{AreOnce, Counts}
use Rattle.bound_laws.proofs.Sets.{both_once, picked}
use Rattle.bound_laws.proofs.Spans.{beside, beside_length, beside_once, beside_was, in_beside, in_upto, length-append}
use Rattle.bound_laws.proofs.Spans.{upto, upto_length, upto_once}

-- those of a list that are of the kind
pub among : {A : Type 0} (P : A → Type 0) → ((x : A) → Decided (P x)) → (xs : List A) → AreOnce xs
    → ((x : A) → P x → Contains xs x) → (n : ℕ) × Counts P n
among P d xs once all = let p = picked P d xs once in (
  length p.list,
  record {
    all = p.list;
    once = p.once;
    each = λ x. ((λ c. (p.only x c).1), (λ is. p.has x (all x is) is));
    count = refl;
  },
)

pub below : (P : ℕ → Type 0) → ((n : ℕ) → Decided (P n)) → (b : ℕ) → ((n : ℕ) → P n → n < b) → (n : ℕ) × Counts P n
below P d b within = among P d (upto b) (upto_once b) (λ n is. in_upto b n (within n is))

-- the members of a list, each once
pub record Singled {A : Type 0} (xs : List A) : Type 0 where
  pub list : List A
  pub once : AreOnce list
  pub has : (x : A) → Contains xs x → Contains list x

pub singled : {A : Type 0} → ((x y : A) → Decided (x ≡ y)) → (xs : List A) → Singled xs
singled same [] = record { list = []; once = tt; has = λ x c. c }
singled {A = A} same (x ∷ xs) = let rest = singled same xs in elim (member_or_not same rest.list x) [
  | inl there ↦ record {
    list = rest.list;
    once = rest.once;
    has = λ y c. elim (cons_cases xs x y c) [
      | inl is ↦ subst (Contains rest.list) (sym is) there
      | inr later ↦ rest.has y later
    ];
  }
  | inr new ↦ record {
    list = x ∷ rest.list;
    once = (new, rest.once);
    has = λ y c. elim (cons_cases xs x y c) [
      | inl is ↦ subst (Contains (x ∷ rest.list)) (sym is) (in_head rest.list x)
      | inr later ↦ in_tail rest.list x y (rest.has y later)
    ];
  }
]

module _ {A : Type 0} (size : A → ℕ) where
  pub pairs : List A → List (A × ℕ)
  pairs [] = []
  pairs (x ∷ xs) = beside x (upto (size x)) ++ pairs xs

  pairs_was : (xs : List A) (p : A × ℕ) → Contains (pairs xs) p → Contains xs p.0
  unfolding pairs
  pairs_was [] p c = absurd (no_member p c)
  pairs_was (x ∷ xs) p c = elim (Contains-append_cases (beside x (upto (size x))) (pairs xs) p c) [
    | inl first ↦ subst (Contains (x ∷ xs)) (sym (beside_was x (upto (size x)) p first).0) (in_head xs x)
    | inr later ↦ in_tail xs x p.0 (pairs_was xs p later)
  ]

  pub in_pairs : (xs : List A) (p : A × ℕ) → Contains xs p.0 → p.1 < size p.0 → Contains (pairs xs) p
  unfolding pairs
  in_pairs [] p c lt = absurd (no_member p.0 c)
  in_pairs (x ∷ xs) p c lt = elim (cons_cases xs x p.0 c) [
    | inl is ↦ Contains-append_left (beside x (upto (size x))) (pairs xs) p
        (subst (λ (y : A). Contains (beside y (upto (size y))) p) is
        (in_beside p.0 (upto (size p.0)) p.1 (in_upto (size p.0) p.1 lt)))
    | inr later ↦ Contains-append_right (beside x (upto (size x))) (pairs xs) p (in_pairs xs p later lt)
  ]

  pairs_once : (xs : List A) → AreOnce xs → AreOnce (pairs xs)
  unfolding pairs
  pairs_once [] o = tt
  pairs_once (x ∷ xs) o = both_once (beside x (upto (size x))) (pairs xs)
      (beside_once x (upto (size x)) (upto_once (size x))) (pairs_once xs o.1)
      (λ p l r. o.0 (subst (Contains xs) (beside_was x (upto (size x)) p l).0 (pairs_was xs p r)))

  pub paired : (P : A × ℕ → Type 0) → ((p : A × ℕ) → Decided (P p)) → (xs : List A) → AreOnce xs
      → ((p : A × ℕ) → P p → Contains xs p.0 × (p.1 < size p.0))
      → (n : ℕ) × Counts P n
  paired P d xs once all = among P d (pairs xs) (pairs_once xs once)
      (λ p is. let (c, lt) = all p is in in_pairs xs p c lt)

-- 66 beside each
pub pairs_length : {A : Type 0} (xs : List A) → length (pairs (λ (x : A). 66) xs) ≡ 66 * length xs
unfolding pairs
pairs_length [] = refl
pairs_length {A = A} (x ∷ xs) =
    let size : A → ℕ = λ (y : A). 66 in
    let e = length-append (beside x (upto 66)) (pairs size xs) in
    let b = beside_length x (upto 66) in
    let u = upto_length 66 in
    let rest = pairs_length xs in
    omega (arith, e, b, u, rest)
