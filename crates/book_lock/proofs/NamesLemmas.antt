-- Names, and the rows of flags that begin with them.
use Rattle.std.proofs.Common.{◌≡◌, ◌≤◌, ◌+◌, ◌-◌, ◌++◌, ℕ, zero, suc, Bool, true, false, cond, not, List, [], ◌∷◌, length, take, length-append, refl, sym, ap, ◌∙◌, ◌⊎◌, inl, inr, ⊎_elim, arith}
use Rattle.std.specs.Prelude.{IsTrue}
use Rattle.std.proofs.Math.Seq.{take-append_seam}
use lib.Pointwise.{pointwise, pointwise_decides}
use mathlib.Core.Bool.{beq}
use Rattle.book_lock.specs.Names.{agree, on, child, parent}
use Rattle.book_lock.specs.Closing.{AreSiblingNames}

-- each row that begins with a name begins with one of its two children
pub on_split : (row : ℕ → Bool) (name : List Bool) → on row (child name false) + on row (child name true) ≡ on row name
on_split row [] = elim (row 0) as (λ b. cond (agree false b) 1 0 + cond (agree true b) 1 0 ≡ 1) [ true ↦ refl | false ↦ refl ]
on_split row (flag ∷ name) =
    elim (agree flag (row 0)) as (λ b. cond b (on (λ k. row (suc k)) (child name false)) 0 + cond b (on (λ k. row (suc k)) (child name true)) 0 ≡ cond b (on (λ k. row (suc k)) name) 0)
    [ true ↦ on_split (λ k. row (suc k)) name | false ↦ refl ]

-- the same, whichever of the two comes first
pub on_children : (row : ℕ → Bool) (name : List Bool) (flag : Bool) → on row (child name flag) + on row (child name (not flag)) ≡ on row name
on_children row name true = omega (arith, on_split row name)
on_children row name false = on_split row name

pub parent-child : (name : List Bool) (flag : Bool) → parent (child name flag) ≡ name
parent-child name flag =
    let e : length (child name flag) - 1 ≡ length name = omega (arith, length-append name (flag ∷ [])) in
    ap (λ n. take n (child name flag)) e ∙ take-append_seam name (flag ∷ [])

-- two flags that differ
other_flag : (f g : Bool) → not (beq f g) ≡ true → g ≡ not f
other_flag true true e = cc
other_flag true false e = refl
other_flag false true e = refl
other_flag false false e = cc

flags_decide : (f g : Bool) → (beq f g ≡ true → f ≡ g) × (f ≡ g → beq f g ≡ true)
flags_decide true true = ((λ e. refl), (λ e. refl))
flags_decide true false = ((λ e. cc), (λ e. cc))
flags_decide false true = ((λ e. cc), (λ e. cc))
flags_decide false false = ((λ e. refl), (λ e. refl))

-- the last flags differ, and what stands before them is the same
pub siblings_by_parts : (name other p q : List Bool) (f g same : Bool) → name ≡ p ++ f ∷ [] → other ≡ q ++ g ∷ [] → not (beq f g) ≡ true → same ≡ pointwise beq p q
    → (IsTrue same → AreSiblingNames name other) × (AreSiblingNames name other → IsTrue same)
siblings_by_parts name other p q f g same first second differ is =
    let decides : (pointwise beq p q ≡ true → p ≡ q) × (p ≡ q → pointwise beq p q ≡ true) = pointwise_decides flags_decide p q in (
      (λ yes. record {
        parent = p;
        flag = f;
        first = first;
        second = second ∙ ap (λ (n : List Bool). n ++ g ∷ []) (sym (decides.0 (sym is ∙ yes))) ∙ ap (child p) (other_flag f g differ);
      }),
      (λ s.
          let front : p ≡ s.parent = sym (parent-child p f) ∙ ap parent (sym first ∙ s.first) ∙ parent-child s.parent s.flag in
          let back : q ≡ s.parent = sym (parent-child q g) ∙ ap parent (sym second ∙ s.second) ∙ parent-child s.parent (not s.flag) in
          is ∙ decides.1 (front ∙ sym back)),
    )

-- the row that begins with the name and goes on with false
abbrev pub row_of : List Bool → ℕ → Bool
row_of [] k = false
row_of (flag ∷ name) zero = flag
row_of (flag ∷ name) (suc k) = row_of name k

agree_same : (f : Bool) → agree f f ≡ true
agree_same true = refl
agree_same false = refl

agree_other : (f : Bool) → agree f (not f) ≡ false
agree_other true = refl
agree_other false = refl

agree_is : (f g : Bool) → (f ≡ g) ⊎ (agree f g ≡ false)
agree_is true true = inl refl
agree_is true false = inr refl
agree_is false true = inr refl
agree_is false false = inl refl

pub on_own : (name : List Bool) → on (row_of name) name ≡ 1
on_own [] = refl
on_own (flag ∷ name) = ap (λ b. cond b (on (row_of name) name) 0) (agree_same flag) ∙ on_own name

-- the row of a child doesn't begin with its sibling
pub on_sibling : (name : List Bool) (flag : Bool) → on (row_of (child name (not flag))) (child name flag) ≡ 0
on_sibling [] flag = ap (λ b. cond b 1 0) (agree_other flag)
on_sibling (first ∷ name) flag = ap (λ b. cond b (on (row_of (child name (not flag))) (child name flag)) 0) (agree_same first) ∙ on_sibling name flag

-- a name that is no longer than a child, and with which the child's row begins, is that child, or the sibling's row begins with it too
pub on_child : (name : List Bool) (flag : Bool) (other : List Bool) → 1 ≤ on (row_of (child name flag)) other → length other ≤ length name + 1
    → (other ≡ child name flag) ⊎ (1 ≤ on (row_of (child name (not flag))) other)
on_child [] flag [] h short = inr (omega arith)
on_child [] flag (f ∷ []) h short = ⊎_elim
    (λ same. inl (ap (λ b. b ∷ []) same))
    (λ differ. let none : on (row_of (child [] flag)) (f ∷ []) ≡ 0 = ap (λ b. cond b 1 0) differ in absurd (omega (arith, none, h)))
    (agree_is f flag)
on_child [] flag (f ∷ (g ∷ other)) h short = absurd (omega arith)
on_child (first ∷ name) flag [] h short = inr (omega arith)
on_child (first ∷ name) flag (f ∷ other) h short = ⊎_elim
    (λ same.
    let yes : agree f first ≡ true = ap (λ b. agree b first) same ∙ agree_same first in
    let down : on (row_of (child (first ∷ name) flag)) (f ∷ other) ≡ on (row_of (child name flag)) other = ap (λ b. cond b (on (row_of (child name flag)) other) 0) yes in
    let up : on (row_of (child (first ∷ name) (not flag))) (f ∷ other) ≡ on (row_of (child name (not flag))) other = ap (λ b. cond b (on (row_of (child name (not flag))) other) 0) yes in
    ⊎_elim
    (λ is. inl (λ i. same i ∷ is i))
    (λ goes. inr (omega (arith, up, goes)))
    (on_child name flag other (omega (arith, down, h)) (omega (arith, short))))
    (λ differ.
    let none : on (row_of (child (first ∷ name) flag)) (f ∷ other) ≡ 0 = ap (λ b. cond b (on (row_of (child name flag)) other) 0) differ in
    absurd (omega (arith, none, h)))
    (agree_is f first)

-- a name is the first's, or a child's
pub last_flag : (name : List Bool) → (name ≡ []) ⊎ ((front : List Bool) × (flag : Bool) × (name ≡ child front flag))
last_flag [] = inl refl
last_flag (first ∷ name) = inr (⊎_elim
    (λ none. ([], first, ap (λ (n : List Bool). first ∷ n) none))
    (λ (front, flag, is). (first ∷ front, flag, ap (λ (n : List Bool). first ∷ n) is))
    (last_flag name))
