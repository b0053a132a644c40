-- What can be decided: of numbers up to a bound, of the members of a list, and of the parts of both.
use Rattle.std.proofs.Common.{◌≡◌, ◌⊎◌, inl, inr, ◌<◌, ◌≤◌, ℕ, zero, suc, ◌+◌, Bool, true, false, List, [], ◌∷◌, Some}
use Rattle.std.proofs.Common.{refl, ap, subst, ◌∙◌, arith}
use Rattle.std.specs.Prelude.{Contains, nat_eq}
use Rattle.std.proofs.lemmas.Bool.Decides.{Decides-eqb}
use Rattle.heat_plan.specs.Tables.{at}
use Rattle.dep_graph.specs.Lists.{IsLeast}
use Rattle.history_laws.proofs.tables.Rows.{same_or_not}
use Rattle.history_laws.proofs.tables.Tables.{cases}
use Rattle.next_laws.proofs.Listings.{cons_cases, in_head, in_tail, no_member}

abbrev pub Decided : Type 0 → Type 0
Decided P = P ⊎ ¬ P

pub both_or_not : {P Q : Type 0} → Decided P → Decided Q → Decided (P × Q)
both_or_not (inl p) (inl q) = inl (p, q)
both_or_not (inl p) (inr n) = inr (λ x. n x.1)
both_or_not (inr n) d = inr (λ x. n x.0)

pub not_or : {P : Type 0} → Decided P → Decided (¬ P)
not_or (inl p) = inr (λ n. n p)
not_or (inr n) = inl n

pub implied_or_not : {P Q : Type 0} → Decided P → Decided Q → Decided (P → Q)
implied_or_not (inr n) d = inl (λ p. absurd (n p))
implied_or_not (inl p) (inl q) = inl (λ x. q)
implied_or_not (inl p) (inr n) = inr (λ f. n (f p))

pub exchanged : {P Q : Type 0} → (P → Q) → (Q → P) → Decided P → Decided Q
exchanged there back (inl p) = inl (there p)
exchanged there back (inr n) = inr (λ q. n (back q))

pub below_or_not : (m n : ℕ) → (m < n) ⊎ (n ≤ m)
below_or_not m n = grind arith

pub le_or_not : (m n : ℕ) → Decided (m ≤ n)
le_or_not m n = elim (below_or_not n m) [ inl lt ↦ inr (λ le. omega (arith, lt, le)) | inr le ↦ inl le ]

pub flag_or_not : (b : Bool) → Decided (b ≡ true)
flag_or_not true = inl refl
flag_or_not false = inr (λ e. cc)

-- the least number of a kind, or none below the bound
pub least_or_none : (P : ℕ → Type 0) → ((n : ℕ) → Decided (P n)) → (b : ℕ)
    → ((n : ℕ) × IsLeast P n) ⊎ ((n : ℕ) → n < b → ¬ P n)
least_or_none P d zero = inr (λ n lt p. omega (arith, lt))
least_or_none P d (suc b) = elim (least_or_none P d b) [
  | inl found ↦ inl found
  | inr none ↦ elim (d b) [
    | inl p ↦ inl
        (b, record { is = p; least = λ m q. elim (below_or_not m b) [ inl lt ↦ absurd (none m lt q) | inr le ↦ le ] })
    | inr not ↦ inr (λ n lt p. elim (same_or_not n b) [
      | inl is ↦ not (subst P is p)
      | inr ne ↦ none n (elim (below_or_not n b) [ inl less ↦ less | inr le ↦ absurd (ne (omega (arith, lt, le))) ]) p
    ])
  ]
]

-- the greatest below the bound, or none
pub record IsGreatest (P : ℕ → Type 0) (b n : ℕ) : Type 0 where
  pub is : P n
  pub below : n < b
  pub greatest : (m : ℕ) → m < b → P m → m ≤ n

pub greatest_or_none : (P : ℕ → Type 0) → ((n : ℕ) → Decided (P n)) → (b : ℕ)
    → ((n : ℕ) × IsGreatest P b n) ⊎ ((n : ℕ) → n < b → ¬ P n)
greatest_or_none P d zero = inr (λ n lt p. omega (arith, lt))
greatest_or_none P d (suc b) = elim (d b) [
  | inl p ↦ inl (b, record { is = p; below = omega arith; greatest = λ m lt q. omega (arith, lt) })
  | inr not ↦ elim (greatest_or_none P d b) [
    | inl found ↦ let (n, g) = found in inl (
      n,
      record {
        is = g.is;
        below = omega (arith, g.below);
        greatest = λ m lt q. elim (same_or_not m b) [
          | inl is ↦ absurd (not (subst P is q))
          | inr ne ↦ g.greatest m
              (elim (below_or_not m b) [ inl less ↦ less | inr le ↦ absurd (ne (omega (arith, lt, le))) ]) q
        ];
      },
    )
    | inr none ↦ inr (λ n lt p. elim (same_or_not n b) [
      | inl is ↦ not (subst P is p)
      | inr ne ↦ none n (elim (below_or_not n b) [ inl less ↦ less | inr le ↦ absurd (ne (omega (arith, lt, le))) ]) p
    ])
  ]
]

-- all below the bound are of the kind, or one isn't
pub all_or_one : (P : ℕ → Type 0) → ((n : ℕ) → Decided (P n)) → (b : ℕ) → ((n : ℕ) → n < b → P n) ⊎ ((n : ℕ) × ¬ P n)
all_or_one P d b = elim (least_or_none (λ n. ¬ P n) (λ n. not_or (d n)) b) [
  | inl found ↦ let (n, l) = found in inr (n, l.is)
  | inr none ↦ inl (λ n lt. elim (d n) [ inl p ↦ p | inr not ↦ absurd (none n lt not) ])
]

-- a member of a list is of the kind, or none is
pub some_or_none : {A : Type 0} (P : A → Type 0) → ((x : A) → Decided (P x)) → (xs : List A)
    → ((x : A) × Contains xs x × P x) ⊎ ((x : A) → Contains xs x → ¬ P x)
some_or_none P d [] = inr (λ x c p. no_member x c)
some_or_none {A = A} P d (y ∷ ys) = elim (d y) [
  | inl p ↦ inl (y, in_head ys y, p)
  | inr not ↦ elim (some_or_none P d ys) [
    | inl found ↦ let (x, c, p) = found in inl (x, in_tail ys y x c, p)
    | inr none ↦ inr (λ x c p. elim (cons_cases ys y x c) [ inl is ↦ not (subst P is p) | inr later ↦ none x later p ])
  ]
]

pub each_or_one : {A : Type 0} (P : A → Type 0) → ((x : A) → Decided (P x)) → (xs : List A)
    → ((x : A) → Contains xs x → P x) ⊎ ((x : A) × Contains xs x × ¬ P x)
each_or_one P d xs = elim (some_or_none (λ x. ¬ P x) (λ x. not_or (d x)) xs) [
  | inl found ↦ inr found
  | inr none ↦ inl (λ x c. elim (d x) [ inl p ↦ p | inr not ↦ absurd (none x c not) ])
]

pub member_or_not : {A : Type 0} → ((x y : A) → Decided (x ≡ y)) → (xs : List A) (x : A) → Decided (Contains xs x)
member_or_not same xs x = elim (some_or_none (λ y. y ≡ x) (λ y. same y x) xs) [
  | inl found ↦ let (y, c, is) = found in inl (subst (Contains xs) is c)
  | inr none ↦ inr (λ c. none x c refl)
]

pair_same : (x y : ℕ × ℕ) → x.0 ≡ y.0 → x.1 ≡ y.1 → x ≡ y
pair_same x y e f =
    let left : (x.0, x.1) ≡ (y.0, x.1) = ap (λ (a : ℕ). (a, x.1)) e in
    let right : (y.0, x.1) ≡ (y.0, y.1) = ap (λ (b : ℕ). (y.0, b)) f in left ∙ right

pub pair_or_not : (x y : ℕ × ℕ) → Decided (x ≡ y)
pair_or_not x y = elim (same_or_not x.0 y.0) [
  | inl e ↦ elim (same_or_not x.1 y.1)
      [ inl f ↦ inl (pair_same x y e f) | inr not ↦ inr (λ is. not (ap (λ (p : ℕ × ℕ). p.1) is)) ]
  | inr not ↦ inr (λ is. not (ap (λ (p : ℕ × ℕ). p.0) is))
]

-- each number that a list has is below some bound
pub bound_of : {A : Type 0} (key : A → ℕ) (xs : List A) → (b : ℕ) × ((x : A) → Contains xs x → key x < b)
bound_of key [] = (0, λ x c. absurd (no_member x c))
bound_of {A = A} key (y ∷ ys) =
    let (b, fits) = bound_of key ys in (
      key y + b + 1,
      λ x c. elim (cons_cases ys y x c) [
        | inl is ↦ let e : key x ≡ key y = ap key is in omega (arith, e)
        | inr later ↦ let lt = fits x later in omega (arith, lt)
      ],
    )

-- so is each key under which a table finds something
pub bound_at : {A : Type 0} (key : A → ℕ) (xs : List A)
    → (b : ℕ) × ((k : ℕ) (x : A) → at nat_eq key xs k ≡ Some x → k < b)
unfolding at
bound_at key [] = (0, λ k x h. cc)
bound_at {A = A} key (y ∷ ys) =
    let (b, fits) = bound_at key ys in (
      key y + b + 1,
      λ k x h. elim (cases nat_eq Decides-eqb (λ (z : ℕ). z) (key y) k) [
        | inl is ↦ omega (arith, is.1)
        | inr not ↦ let lt = fits k x (rw not.0 at h) in omega (arith, lt)
      ],
    )
