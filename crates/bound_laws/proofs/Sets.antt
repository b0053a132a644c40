-- What is known of how many there are: of kinds within kinds.
use Rattle.std.proofs.Common.{◌≡◌, ◌≢◌, ◌⊎◌, inl, inr, ◌≤◌, ℕ, ◌+◌, List, [], ◌∷◌, ◌++◌, length, refl, sym, subst, ◌∙◌}
use Rattle.std.proofs.Common.{arith}
use Rattle.std.specs.Prelude.{Contains}
use Rattle.std.proofs.lemmas.List.Elements.{Contains-append_cases, Contains-append_left, Contains-append_right}
use Rattle.next_laws.proofs.Listings.{cons_cases, in_head, in_tail, no_member}
use Rattle.next_laws.proofs.Decide.{Decided}
use Rattle.bound_laws.specs.Counts.{AreOnce, Counts}
use Rattle.bound_laws.proofs.Spans.{length-append}

-- the list without one of its members
record Without {A : Type 0} (ys : List A) (x : A) : Type 0 where
  pub rest : List A
  pub shorter : length rest + 1 ≡ length ys
  pub keeps : (z : A) → Contains ys z → z ≢ x → Contains rest z

without : {A : Type 0} (ys : List A) (x : A) → Contains ys x → Without ys x
without [] x c = absurd (no_member x c)
without {A = A} (y ∷ ys) x c = elim (cons_cases ys y x c) [
  | inl is ↦ record {
    rest = ys;
    shorter = omega arith;
    keeps = λ z at ne. elim (cons_cases ys y z at) [ inl same ↦ absurd (ne (same ∙ sym is)) | inr later ↦ later ];
  }
  | inr there ↦ let w = without ys x there in record {
    rest = y ∷ w.rest;
    shorter = (let e = w.shorter in omega (arith, e));
    keeps = λ z at ne. elim (cons_cases ys y z at) [
      | inl same ↦ subst (Contains (y ∷ w.rest)) (sym same) (in_head w.rest y)
      | inr later ↦ in_tail w.rest y z (w.keeps z later ne)
    ];
  }
]

pub within : {A : Type 0} (xs ys : List A) → AreOnce xs → ((x : A) → Contains xs x → Contains ys x)
    → length xs ≤ length ys
within [] ys once all = omega arith
within (x ∷ xs) ys once all =
    let w = without ys x (all x (in_head xs x)) in
    let le = within xs w.rest once.1
    (λ z c. w.keeps z (all z (in_tail xs x z c)) (λ is. once.0 (subst (Contains xs) is c))) in
    let e = w.shorter in omega (arith, le, e)

-- two lists that have nothing in common
pub both_once : {A : Type 0} (ys zs : List A) → AreOnce ys → AreOnce zs → ((z : A) → Contains ys z → Contains zs z → ⊥)
    → AreOnce (ys ++ zs)
both_once [] zs a b apart = b
both_once (y ∷ ys) zs a b apart = (
  (λ c. elim (Contains-append_cases ys zs y c) [ inl l ↦ a.0 l | inr r ↦ apart y (in_head ys y) r ]),
  both_once ys zs a.1 b (λ z l r. apart z (in_tail ys y z l) r),
)

module _ {A : Type 0} {P Q : A → Type 0} {n m : ℕ} (p : Counts P n) (q : Counts Q m) where
  pub at_most : ((x : A) → P x → Q x) → n ≤ m
  at_most all = let le = within p.all q.all p.once (λ x c. (q.each x).1 (all x ((p.each x).0 c))) in
      let a = p.count in let b = q.count in omega (arith, le, a, b)

  pub fewer : ((x : A) → P x → Q x) → (x : A) → Q x → ¬ P x → n + 1 ≤ m
  fewer all x has hasnt = let le = within (x ∷ p.all) q.all ((λ c. hasnt ((p.each x).0 c)), p.once)
      (λ z c. elim (cons_cases p.all x z c) [
        | inl is ↦ subst (Contains q.all) (sym is) ((q.each x).1 has)
        | inr later ↦ (q.each z).1 (all z ((p.each z).0 later))
      ]) in let a = p.count in let b = q.count in omega (arith, le, a, b)

  pub one_more : (x : A) → ((z : A) → P z → Q z ⊎ (z ≡ x)) → n ≤ m + 1
  one_more x all = let le = within p.all (x ∷ q.all) p.once (λ z c. elim (all z ((p.each z).0 c)) [
    | inl old ↦ in_tail q.all x z ((q.each z).1 old)
    | inr is ↦ subst (Contains (x ∷ q.all)) (sym is) (in_head q.all x)
  ]) in let a = p.count in let b = q.count in omega (arith, le, a, b)

  -- so many more at most as the list is long
  pub some_more : (xs : List A) → ((z : A) → P z → Q z ⊎ Contains xs z) → n ≤ m + length xs
  some_more xs all = let le = within p.all (q.all ++ xs) p.once (λ z c. elim (all z ((p.each z).0 c)) [
    | inl old ↦ Contains-append_left q.all xs z ((q.each z).1 old)
    | inr new ↦ Contains-append_right q.all xs z new
  ]) in let a = p.count in let b = q.count in let l = length-append q.all xs in omega (arith, le, a, b, l)

  -- so many fewer at least as the list is long
  pub some_fewer : (xs : List A) → AreOnce xs → ((x : A) → P x → Q x) → ((x : A) → Contains xs x → Q x × (¬ P x))
      → n + length xs ≤ m
  some_fewer xs once all none =
      let le = within (p.all ++ xs) q.all (both_once p.all xs p.once once (λ z c d. (none z d).1 ((p.each z).0 c)))
      (λ z c. elim (Contains-append_cases p.all xs z c) [
        | inl old ↦ (q.each z).1 (all z ((p.each z).0 old))
        | inr new ↦ (q.each z).1 (none z new).0
      ]) in let a = p.count in let b = q.count in let l = length-append p.all xs in omega (arith, le, a, b, l)

-- two kinds that have nothing in common
pub joined : {A : Type 0} {P Q : A → Type 0} {n m : ℕ} → Counts P n → Counts Q m → ((x : A) → P x → Q x → ⊥)
    → Counts (λ x. P x ⊎ Q x) (n + m)
joined {A = A} {P = P} {Q = Q} p q apart = record {
  all = p.all ++ q.all;
  once = both_once p.all q.all p.once q.once (λ x l r. apart x ((p.each x).0 l) ((q.each x).0 r));
  each = λ x. (of x, has x);
  count = (let l = length-append p.all q.all in let a = p.count in let b = q.count in omega (arith, l, a, b));
} where
  of : (x : A) → Contains (p.all ++ q.all) x → P x ⊎ Q x
  of x c = elim (Contains-append_cases p.all q.all x c) [ inl l ↦ inl ((p.each x).0 l) | inr r ↦ inr ((q.each x).0 r) ]

  has : (x : A) → P x ⊎ Q x → Contains (p.all ++ q.all) x
  has x (inl k) = Contains-append_left p.all q.all x ((p.each x).1 k)
  has x (inr k) = Contains-append_right p.all q.all x ((q.each x).1 k)

-- those of a kind that are of another too
pub record Picked {A : Type 0} (R : A → Type 0) (xs : List A) : Type 0 where
  pub list : List A
  pub once : AreOnce list
  pub has : (x : A) → Contains xs x → R x → Contains list x
  pub only : (x : A) → Contains list x → Contains xs x × R x

pub picked : {A : Type 0} (R : A → Type 0) → ((x : A) → Decided (R x)) → (xs : List A) → AreOnce xs → Picked R xs
picked R d [] once = record { list = []; once = tt; has = λ x c r. c; only = λ x c. absurd (no_member x c) }
picked {A = A} R d (x ∷ xs) once = let rest = picked R d xs once.1 in elim (d x) [
  | inr not ↦ record {
    list = rest.list;
    once = rest.once;
    has = λ z c r. elim (cons_cases xs x z c) [ inl is ↦ absurd (not (subst R is r)) | inr later ↦ rest.has z later r ];
    only = λ z c. let (at, r) = rest.only z c in (in_tail xs x z at, r);
  }
  | inl is_r ↦ record {
    list = x ∷ rest.list;
    once = ((λ c. once.0 (rest.only x c).0), rest.once);
    has = λ z c r. elim (cons_cases xs x z c) [
      | inl is ↦ subst (Contains (x ∷ rest.list)) (sym is) (in_head rest.list x)
      | inr later ↦ in_tail rest.list x z (rest.has z later r)
    ];
    only = λ z c. elim (cons_cases rest.list x z c) [
      | inl is ↦ (subst (Contains (x ∷ xs)) (sym is) (in_head xs x), subst R (sym is) is_r)
      | inr later ↦ (let (at, r) = rest.only z later in (in_tail xs x z at, r))
    ];
  }
]

pub those : {A : Type 0} {Q : A → Type 0} {m : ℕ} → Counts Q m → (R : A → Type 0) → ((x : A) → Decided (R x))
    → (k : ℕ) × Counts (λ x. Q x × R x) k
those q R d = let p = picked R d q.all q.once in (
  length p.list,
  record {
    all = p.list;
    once = p.once;
    each = λ x. (
      (λ c. let (at, r) = p.only x c in ((q.each x).0 at, r)),
      (λ both. p.has x ((q.each x).1 both.0) both.1),
    );
    count = refl;
  },
)
