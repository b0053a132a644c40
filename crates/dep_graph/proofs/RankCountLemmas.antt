-- What the searches have left to do: nodes that have no mark, each with its neighbours, and what waits.
use Rattle.std.proofs.Common.{◌≡◌, ◌+◌, ◌*◌, ◌<◌, ◌≤◌, ℕ, zero, suc, Bool, true, false, not, cond, List}
use Rattle.std.proofs.Common.{length, get_or, set, refl, ap, ◌∙◌, arith, suc-mul}
use Rattle.std.specs.Prelude.{count_by, nat_eq}
use Rattle.std.proofs.lemmas.Bool.{eqb-true}
use Rattle.std.proofs.lemmas.List.Elements.{Contains-get_or}
use Rattle.std.proofs.lemmas.List.Sums.{sum_by-set}
use Rattle.dep_graph.specs.Lists.{IsRising, ListsAll}
use Rattle.dep_graph.specs.Marks.{unmarked_count}

-- as much for each node as a search can do there, and what waits
abbrev pub left_to_do : ℕ → ℕ → ℕ → ℕ
left_to_do size unmarked waiting = unmarked * (size + 1) + waiting

-- how many have no mark, where a mark is above none
abbrev pub zeros : List ℕ → ℕ
zeros marks = count_by (λ (m : ℕ). nat_eq m 0) marks

at_least : (l : List ℕ) → IsRising l → (i d : ℕ) → i < length l → i ≤ get_or l i d
at_least l up zero d lt = omega arith
at_least l up (suc i) d lt =
    let below : get_or l i d < get_or l (suc i) d = up i (suc i) d (omega arith) lt in
    let before : i ≤ get_or l i d = at_least l up i d (omega (arith, lt)) in
    omega (arith, below, before)

-- a rising list of numbers below a bound is no longer than that
pub neighbours_few : (Is : ℕ → Type 0) (l : List ℕ) (size : ℕ) → ListsAll Is l → ((x : ℕ) → Is x → x < size)
    → length l ≤ size
neighbours_few Is l size lists below = by (length l) (λ i lt. lt)
  where
    by : (n : ℕ) → ((i : ℕ) → i < n → i < length l) → n ≤ size
    by zero inside = omega arith
    by (suc m) inside =
        let lt : m < length l = inside m (omega arith) in
        let low : m ≤ get_or l m 0 = at_least l lists.rising m 0 lt in
        let high : get_or l m 0 < size =
        below (get_or l m 0) ((lists.each (get_or l m 0)).0 (Contains-get_or l m 0 lt)) in
        omega (arith, low, high)

pub less_waiting : (size unmarked new old : ℕ) → old ≡ new + 1
    → left_to_do size unmarked new < left_to_do size unmarked old
less_waiting size unmarked new old is = sums (unmarked * (size + 1))
  where
    sums : (p : ℕ) → p + new < p + old
    sums p = omega (arith, is)

pub less_marked : (size before after rest nexts new old : ℕ) → after + 1 ≡ before → nexts ≤ size
    → new ≤ rest + 1 + nexts → old ≡ rest + 1 → left_to_do size after new < left_to_do size before old
less_marked size before after rest nexts new old one few is was =
    let more : before ≡ suc after = omega (arith, one) in
    sums (before * (size + 1)) (after * (size + 1))
    (ap (λ (k : ℕ). k * (size + 1)) more ∙ suc-mul after (size + 1))
  where
    sums : (p q : ℕ) → p ≡ q + (size + 1) → q + new < p + old
    sums p q e = omega (arith, e, few, is, was)

pub unmarked_less : (marks : List Bool) (x : ℕ) → x < length marks → get_or marks x false ≡ false
    → unmarked_count (set marks x true) + 1 ≡ unmarked_count marks
unmarked_less marks x lt m =
    let e = sum_by-set (λ (b : Bool). cond (not b) 1 0) marks x true false lt in
    let one : ◌≡◌ {A = ℕ} (cond (not (get_or marks x false)) 1 0) 1 = ap (λ (b : Bool). cond (not b) 1 0) m in
    omega (arith, e, one)

pub zeros_less : (marks : List ℕ) (x r : ℕ) → x < length marks → get_or marks x 0 ≡ 0 → 0 < r
    → zeros (set marks x r) + 1 ≡ zeros marks
zeros_less marks x r lt m above = by (nat_eq r 0) refl
  where
    by : (b : Bool) → nat_eq r 0 ≡ b → zeros (set marks x r) + 1 ≡ zeros marks
    by true is = let none : r ≡ 0 = eqb-true r 0 is in absurd (omega (arith, none, above))
    by false is =
        let e = sum_by-set (λ (n : ℕ). cond (nat_eq n 0) 1 0) marks x r 0 lt in
        let one : ◌≡◌ {A = ℕ} (cond (nat_eq (get_or marks x 0) 0) 1 0) 1 =
        ap (λ (n : ℕ). cond (nat_eq n 0) 1 0) m in
        let two : ◌≡◌ {A = ℕ} (cond (nat_eq r 0) 1 0) 0 = ap (λ (b : Bool). cond b 1 0) is in
        omega (arith, e, one, two)
