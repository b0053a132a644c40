-- The numbers below a bound, rising numbers, and lengths.
use Rattle.std.proofs.Common.{◌≡◌, inl, inr, ◌<◌, ℕ, zero, suc, ◌+◌, List, [], ◌∷◌, ◌++◌, length, map, refl, sym, ap}
use Rattle.std.proofs.Common.{subst, arith}
use Rattle.std.specs.Prelude.{Contains}
use Rattle.dep_graph.specs.Lists.{IsRising}
use Rattle.history_laws.proofs.tables.Rows.{same_or_not}
use Rattle.next_laws.proofs.Listings.{cons_cases, in_head, in_tail, no_member}
use Rattle.bound_laws.specs.Counts.{AreOnce}

-- the numbers below a bound, each once
pub upto : ℕ → List ℕ
upto zero = []
upto (suc n) = n ∷ upto n

pub upto_below : (n k : ℕ) → Contains (upto n) k → k < n
unfolding upto
upto_below zero k c = absurd (no_member k c)
upto_below (suc n) k c = elim (cons_cases (upto n) n k c)
    [ inl is ↦ omega (arith, is) | inr later ↦ let lt = upto_below n k later in omega (arith, lt) ]

pub in_upto : (n k : ℕ) → k < n → Contains (upto n) k
unfolding upto
in_upto zero k lt = absurd (omega (arith, lt))
in_upto (suc n) k lt = elim (same_or_not k n) [
  | inl is ↦ subst (Contains (n ∷ upto n)) (sym is) (in_head (upto n) n)
  | inr ne ↦ in_tail (upto n) n k (in_upto n k (omega (arith, lt, ne)))
]

pub upto_once : (n : ℕ) → AreOnce (upto n)
unfolding upto
upto_once zero = tt
upto_once (suc n) = ((λ c. let lt = upto_below n n c in omega (arith, lt)), upto_once n)

pub upto_length : (n : ℕ) → length (upto n) ≡ n
unfolding upto
upto_length zero = refl
upto_length (suc n) = ap suc (upto_length n)

pub rising_once : (ks : List ℕ) → IsRising ks → AreOnce ks
rising_once [] up = tt
rising_once (y ∷ ks) up = (
  (λ c. let (j, lt, is) = c in let less = up 0 (suc j) y (omega arith) (omega (arith, lt)) in omega (arith, less, is)),
  rising_once ks (λ p q d lt inside. up (suc p) (suc q) d (omega (arith, lt)) (omega (arith, inside))),
)

pub length-map : {A B : Type 0} (f : A → B) (xs : List A) → length (map f xs) ≡ length xs
length-map f [] = refl
length-map f (x ∷ xs) = ap suc (length-map f xs)

pub length-append : {A : Type 0} (xs ys : List A) → length (xs ++ ys) ≡ length xs + length ys
length-append [] ys = omega arith
length-append (x ∷ xs) ys = let e = length-append xs ys in omega (arith, e)

-- the numbers beside one thing
pub beside : {A : Type 0} → A → List ℕ → List (A × ℕ)
beside x [] = []
beside x (i ∷ is) = (x, i) ∷ beside x is

pub beside_was : {A : Type 0} (x : A) (is : List ℕ) (p : A × ℕ) → Contains (beside x is) p → (p.0 ≡ x) × Contains is p.1
unfolding beside
beside_was x [] p c = absurd (no_member p c)
beside_was {A = A} x (i ∷ is) p c = elim (cons_cases (beside x is) (x, i) p c) [
  | inl same ↦ (ap (λ (q : A × ℕ). q.0) same, subst (λ (q : A × ℕ). Contains (i ∷ is) q.1) (sym same) (in_head is i))
  | inr later ↦ let w = beside_was x is p later in (w.0, in_tail is i p.1 w.1)
]

pub in_beside : {A : Type 0} (x : A) (is : List ℕ) (i : ℕ) → Contains is i → Contains (beside x is) (x, i)
unfolding beside
in_beside x [] i c = absurd (no_member i c)
in_beside x (k ∷ is) i c = elim (cons_cases is k i c) [
  | inl same ↦ subst (λ (q : ℕ). Contains ((x, k) ∷ beside x is) (x, q)) (sym same) (in_head (beside x is) (x, k))
  | inr later ↦ in_tail (beside x is) (x, k) (x, i) (in_beside x is i later)
]

pub beside_once : {A : Type 0} (x : A) (is : List ℕ) → AreOnce is → AreOnce (beside x is)
unfolding beside
beside_once x [] o = tt
beside_once x (i ∷ is) o = ((λ c. o.0 (beside_was x is (x, i) c).1), beside_once x is o.1)

pub beside_length : {A : Type 0} (x : A) (is : List ℕ) → length (beside x is) ≡ length is
unfolding beside
beside_length x [] = refl
beside_length x (i ∷ is) = ap suc (beside_length x is)
