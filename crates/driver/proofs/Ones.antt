-- Counting one after the other: what is of a kind among what was seen.
use Rattle.std.proofs.Common.{arith, inl, inr, refl, subst, sym, ◌⊎◌}
use Rattle.std.specs.Prelude.{Contains, List, [], length, ℕ, ◌++◌, ◌+◌, ◌<◌, ◌∷◌, ◌≡◌}
use Rattle.std.proofs.lemmas.List.Elements.{Contains-append_cases, Contains-append_left, Contains-append_right}
use Rattle.history_laws.proofs.tables.Rows.{same_or_not}
use Rattle.next_laws.proofs.Listings.{cons_cases, in_head, in_tail, no_member}
use Rattle.bound_laws.specs.Counts.{AreOnce, Counts}
use Rattle.bound_laws.proofs.Sets.{joined}
use Rattle.bound_laws.proofs.Spans.{beside, beside_length, beside_once, beside_was, in_beside, in_upto, upto}
use Rattle.bound_laws.proofs.Spans.{upto_below, upto_length, upto_once}
use Rattle.driver.specs.Parts.{IsOne, none, one}

-- one kind that is another
pub same_kind : {A : Type 0} {P Q : A → Type 0} (n : ℕ) → Counts P n → ((x : A) → P x → Q x) → ((x : A) → Q x → P x)
    → Counts Q n
same_kind n c there back = record {
  all = c.all;
  once = c.once;
  each = λ x. ((λ at. there x ((c.each x).0 at)), (λ q. (c.each x).1 (back x q)));
  count = c.count;
}

pub same_one : {P Q : Type 0} (n : ℕ) → IsOne P n → (P → Q) → (Q → P) → IsOne Q n
same_one n (one p is) there back = one (there p) is
same_one n (none not is) there back = none (λ q. not (back q)) is

-- where there are none
pub no_kind : {A : Type 0} {P : A → Type 0} → ((x : A) → ¬ P x) → Counts P 0
no_kind never = record {
  all = [];
  once = tt;
  each = λ x. ((λ c. absurd (no_member x c)), (λ p. absurd (never x p)));
  count = refl;
}

module _ {K : Type 0} (P : K → Type 0) where
  -- of those that were seen
  abbrev pub Among : List K → K → Type 0
  Among keys k = Contains keys k × P k

  pub seen_none : Counts (Among []) 0
  seen_none = no_kind (λ k both. no_member k both.0)

  pub seen_more : (keys : List K) (k : K) (n b : ℕ) → Counts (Among keys) n → ¬ Contains keys k → IsOne (P k) b
      → Counts (Among (keys ++ k ∷ [])) (n + b)
  seen_more keys k n b c new (one p is) = record {
    all = k ∷ c.all;
    once = ((λ at. new ((c.each k).0 at).0), c.once);
    each = λ x. (
      (λ at. elim (cons_cases c.all k x at) [
        | inl same ↦ (
          Contains-append_right keys (k ∷ []) x (subst (Contains (k ∷ [])) (sym same) (in_head [] k)),
          subst P (sym same) p,
        )
        | inr later ↦ let (was, of) = (c.each x).0 later in (Contains-append_left keys (k ∷ []) x was, of)
      ]),
      (λ both. elim (Contains-append_cases keys (k ∷ []) x both.0) [
        | inl was ↦ in_tail c.all k x ((c.each x).1 (was, both.1))
        | inr last ↦ elim (cons_cases [] k x last) [
          | inl same ↦ subst (Contains (k ∷ c.all)) (sym same) (in_head c.all k)
          | inr nothing ↦ absurd (no_member x nothing)
        ]
      ]),
    );
    count = (let e = c.count in omega (arith, e, is));
  }
  seen_more keys k n b c new (none not is) = record {
    all = c.all;
    once = c.once;
    each = λ x. (
      (λ at. let (was, of) = (c.each x).0 at in (Contains-append_left keys (k ∷ []) x was, of)),
      (λ both. elim (Contains-append_cases keys (k ∷ []) x both.0) [
        | inl was ↦ (c.each x).1 (was, both.1)
        | inr last ↦ elim (cons_cases [] k x last) [
          | inl same ↦ absurd (not (subst P same both.1))
          | inr nothing ↦ absurd (no_member x nothing)
        ]
      ]),
    );
    count = (let e = c.count in omega (arith, e, is));
  }

  pub seen_all : (keys : List K) (n : ℕ) → Counts (Among keys) n → ((k : K) → P k → Contains keys k) → Counts P n
  seen_all keys n c has = same_kind n c (λ k both. both.1) (λ k p. (has k p, p))

at_or_below : (x k : ℕ) → x < k + 1 → (x ≡ k) ⊎ (x < k)
at_or_below x k lt = elim (same_or_not x k) [ inl is ↦ inl is | inr ne ↦ inr (omega (arith, lt, ne)) ]

-- the numbers below a bound
module _ (P : ℕ → Type 0) where
  abbrev pub Below : ℕ → ℕ → Type 0
  Below b k = (k < b) × P k

  pub below_none : Counts (Below 0) 0
  below_none = no_kind (λ k both. let lt = both.0 in omega (arith, lt))

  pub below_more : (k n b : ℕ) → Counts (Below k) n → IsOne (P k) b → Counts (Below (k + 1)) (n + b)
  below_more k n b c (one p is) = record {
    all = k ∷ c.all;
    once = ((λ at. let lt = ((c.each k).0 at).0 in omega (arith, lt)), c.once);
    each = λ x. (
      (λ at. elim (cons_cases c.all k x at) [
        | inl same ↦ (omega (arith, same), subst P (sym same) p)
        | inr later ↦ let (lt, of) = (c.each x).0 later in (omega (arith, lt), of)
      ]),
      (λ both. let lt = both.0 in elim (at_or_below x k lt) [
        | inl same ↦ subst (Contains (k ∷ c.all)) (sym same) (in_head c.all k)
        | inr less ↦ in_tail c.all k x ((c.each x).1 (less, both.1))
      ]),
    );
    count = (let e = c.count in omega (arith, e, is));
  }
  below_more k n b c (none not is) = record {
    all = c.all;
    once = c.once;
    each = λ x. (
      (λ at. let (lt, of) = (c.each x).0 at in (omega (arith, lt), of)),
      (λ both. let lt = both.0 in elim (at_or_below x k lt) [
        | inl same ↦ absurd (not (subst P same both.1))
        | inr less ↦ (c.each x).1 (less, both.1)
      ]),
    );
    count = (let e = c.count in omega (arith, e, is));
  }

  pub below_all : (b n : ℕ) → Counts (Below b) n → ((k : ℕ) → P k → k < b) → Counts P n
  below_all b n c within = same_kind n c (λ k both. both.1) (λ k p. (within k p, p))

-- so many are below a bound
pub all_below : (P : ℕ → Type 0) (b : ℕ) → ((k : ℕ) → P k → k < b) → ((k : ℕ) → k < b → P k) → Counts P b
all_below P b within each = record {
  all = upto b;
  once = upto_once b;
  each = λ k. ((λ c. each k (upto_below b k c)), (λ p. in_upto b k (within k p)));
  count = upto_length b;
}

-- those beside a name more
module _ {A : Type 0} (P : A × ℕ → Type 0) where
  abbrev pub Beside : List A → A × ℕ → Type 0
  Beside names x = Contains names x.0 × P x

  pub beside_none : Counts (Beside []) 0
  beside_none = no_kind (λ x both. no_member x.0 both.0)

  those_beside : (name : A) (n : ℕ) → Counts (λ (i : ℕ). P (name, i)) n → Counts (λ (x : A × ℕ). (x.0 ≡ name) × P x) n
  those_beside name n c = record {
    all = beside name c.all;
    once = beside_once name c.all c.once;
    each = λ x. (of x, has x);
    count = (let a = beside_length name c.all in let b = c.count in omega (arith, a, b));
  } where
    of : (x : A × ℕ) → Contains (beside name c.all) x → (x.0 ≡ name) × P x
    of x at = let (is, number) = beside_was name c.all x at in
        (is, subst (λ (a : A). P (a, x.1)) (sym is) ((c.each x.1).0 number))

    has : (x : A × ℕ) → (x.0 ≡ name) × P x → Contains (beside name c.all) x
    has x both = subst (λ (a : A). Contains (beside name c.all) (a, x.1)) (sym both.0)
        (in_beside name c.all x.1 ((c.each x.1).1 (subst (λ (a : A). P (a, x.1)) both.0 both.1)))

  pub beside_more : (names : List A) (name : A) (n m : ℕ) → Counts (Beside names) n → ¬ Contains names name
      → Counts (λ (i : ℕ). P (name, i)) m → Counts (Beside (names ++ name ∷ [])) (n + m)
  beside_more names name n m c new d = same_kind (n + m)
      (joined c (those_beside name m d) (λ x both is. new (subst (Contains names) is.0 both.0)))
      there back where
        there : (x : A × ℕ) → Beside names x ⊎ ((x.0 ≡ name) × P x) → Beside (names ++ name ∷ []) x
        there x (inl was) = (Contains-append_left names (name ∷ []) x.0 was.0, was.1)
        there x (inr is) = (
          Contains-append_right names (name ∷ []) x.0 (subst (Contains (name ∷ [])) (sym is.0) (in_head [] name)),
          is.1,
        )

        back : (x : A × ℕ) → Beside (names ++ name ∷ []) x → Beside names x ⊎ ((x.0 ≡ name) × P x)
        back x both = elim (Contains-append_cases names (name ∷ []) x.0 both.0) [
          | inl was ↦ inl (was, both.1)
          | inr last ↦ elim (cons_cases [] name x.0 last)
              [ inl same ↦ inr (same, both.1) | inr nothing ↦ absurd (no_member x.0 nothing) ]
        ]

  pub beside_all : (names : List A) (n : ℕ) → Counts (Beside names) n → ((x : A × ℕ) → P x → Contains names x.0)
      → Counts P n
  beside_all names n c has = same_kind n c (λ x both. both.1) (λ x p. (has x p, p))
