-- A row is replaced by a new one.
use Rattle.std.proofs.Common.{◌≡◌, ◌≢◌, ◌<◌, ◌≤◌, inl, inr, ℕ, List, Some, None, sym, ap, ◌∙◌, arith}
use Rattle.row_table.specs.Chains.{IsCurrent}
use Rattle.row_table.specs.Rows.{put_row, row_at}
use Rattle.row_table.specs.declared.row.Row.{Row}
use Rattle.step_relation.specs.declared.Numbers.{Numbers}
use Rattle.step_relation.specs.Linked.{Chained, IsReplacedBy, OneCurrent}
use Rattle.step_relation.specs.Numbered.{RowBelow}
use Rattle.history_laws.proofs.tables.Rows.{row-key, row_put}

-- how the new row names the old one, and the old one the new one
pub record Replaces (next : Numbers) (rows : List Row) (r new old : Row) : Type 0 where
  pub stood : row_at rows r.no ≡ Some r
  pub current : IsCurrent r
  pub below : (n : ℕ) (q : Row) → row_at rows n ≡ Some q → RowBelow next.row next.trav next.engine q
  pub number : new.no ≡ next.row
  pub stack : new.stack ≡ r.stack
  pub name : new.name ≡ r.name
  pub replaces : new.replaces ≡ Some r.no
  pub last : new.replaced_by ≡ None
  pub old_number : old.no ≡ r.no
  pub old_stack : old.stack ≡ r.stack
  pub old_name : old.name ≡ r.name
  pub old_replaces : old.replaces ≡ r.replaces
  pub old_by : old.replaced_by ≡ Some next.row

-- what is found after it
pub data Found (rows : List Row) (new old : Row) (n : ℕ) (a : Row) : Type 0 where
  is_old : old.no ≡ n → old ≡ a → Found rows new old n a
  is_new : new.no ≡ n → new ≡ a → Found rows new old n a
  was : old.no ≢ n → new.no ≢ n → row_at rows n ≡ Some a → Found rows new old n a

pub found : (rows : List Row) (new old : Row) (n : ℕ) (a : Row) → row_at (put_row old (put_row new rows)) n ≡ Some a
    → Found rows new old n a
found rows new old n a h = elim (row_put old (put_row new rows) h) [
  | inl o ↦ is_old o.0 o.1
  | inr i ↦ elim (row_put new rows i.1) [ inl k ↦ is_new k.0 k.1 | inr k ↦ was i.0 k.0 k.1 ]
]

module _ (next : Numbers) (rows : List Row) (r new old : Row) (R : Replaces next rows r new old) where
  less : (n : ℕ) (q : Row) → row_at rows n ≡ Some q → n < next.row
  less n q h = let e : q.no ≡ n = row-key rows n q h in let b : q.no < next.row = (R.below n q h).no_ in omega arith

  by_less : (n m : ℕ) (q : Row) → row_at rows n ≡ Some q → q.replaced_by ≡ Some m → m < next.row
  by_less n m q h e = (R.below n q h).replaced_by m e

  of_less : (n m : ℕ) (q : Row) → row_at rows n ≡ Some q → q.replaces ≡ Some m → m < next.row
  of_less n m q h e = (R.below n q h).replaces m e

  not_by : (m : ℕ) → r.replaced_by ≡ Some m → ⊥
  not_by m e = let l = R.current.last in cc

  pair : IsReplacedBy old new
  pair = record {
    replaced_by = R.old_by ∙ ap Some (sym R.number);
    replaces = R.replaces ∙ ap Some (sym R.old_number);
    stack = R.stack ∙ sym R.old_stack;
    name = R.name ∙ sym R.old_name;
  }

  to_old : (a : Row) → IsReplacedBy a r → IsReplacedBy a old
  to_old a is = record {
    replaced_by = is.replaced_by ∙ ap Some (sym R.old_number);
    replaces = R.old_replaces ∙ is.replaces;
    stack = R.old_stack ∙ is.stack;
    name = R.old_name ∙ is.name;
  }

  stood_at : (m : ℕ) → old.no ≡ m → row_at rows m ≡ Some r
  stood_at m k = rw (← k, R.old_number) R.stood

  rises : Chained rows → (n m : ℕ) (a : Row) → Found rows new old n a → a.replaced_by ≡ Some m → n < m
  rises h n m a (is_old k e) by =
      let s = R.stood in let l = less r.no r s in let o = R.old_by in let i = R.old_number in
      let f : old.replaced_by ≡ Some m = rw e by in let g : next.row ≡ m = cc in omega arith
  rises h n m a (is_new k e) by = let o = R.last in let f : new.replaced_by ≡ Some m = rw e by in cc
  rises h n m a (was x y w) by = h.rises n m a w by

  forth : Chained rows → (n m : ℕ) (a q : Row) → Found rows new old n a → a.replaced_by ≡ Some m
      → Found rows new old m q → IsReplacedBy a q
  forth h n m a q (is_old k e) by (is_old k' e') =
      let l = less r.no r R.stood in let o = R.old_by in let i = R.old_number in
      let f : old.replaced_by ≡ Some m = rw e by in let g : next.row ≡ m = cc in absurd (omega arith)
  forth h n m a q (is_old k e) by (is_new k' e') = rw (← e, ← e') pair
  forth h n m a q (is_old k e) by (was x y w) =
      let o = R.old_by in let f : old.replaced_by ≡ Some m = rw e by in let g : next.row ≡ m = cc in absurd
      (y (R.number ∙ g))
  forth h n m a q (is_new k e) by there = let o = R.last in let f : new.replaced_by ≡ Some m = rw e by in cc
  forth h n m a q (was x y w) by (is_old k' e') = rw (← e') (to_old a (h.forth n m a r w by (stood_at m k')))
  forth h n m a q (was x y w) by (is_new k' e') = let l = by_less n m a w by in let i = R.number in absurd
      (omega arith)
  forth h n m a q (was x y w) by (was x' y' w') = h.forth n m a q w by w'

  back : Chained rows → (n m : ℕ) (a q : Row) → Found rows new old n a → Found rows new old m q
      → q.replaces ≡ Some n → IsReplacedBy a q
  back h n m a q (is_old k e) (is_old k' e') of =
      let o : r.replaces ≡ Some n = sym R.old_replaces ∙ (rw e' of) in
      absurd (not_by r.no (h.back n r.no r r (stood_at n k) R.stood o).replaced_by)
  back h n m a q (is_new k e) (is_old k' e') of =
      let o : r.replaces ≡ Some n = sym R.old_replaces ∙ (rw e' of) in
      let l = of_less r.no n r R.stood o in let i = R.number in absurd (omega arith)
  back h n m a q (was x y w) (is_old k' e') of =
      let o : r.replaces ≡ Some n = sym R.old_replaces ∙ (rw e' of) in rw (← e')
      (to_old a (h.back n r.no a r w R.stood o))
  back h n m a q (is_old k e) (is_new k' e') of = rw (← e, ← e') pair
  back h n m a q (is_new k e) (is_new k' e') of =
      let o = R.replaces in let i = R.number in let l = less r.no r R.stood in
      let f : new.replaces ≡ Some n = rw e' of in let g : r.no ≡ n = cc in absurd (omega arith)
  back h n m a q (was x y w) (is_new k' e') of =
      let o = R.replaces in let f : new.replaces ≡ Some n = rw e' of in let g : r.no ≡ n = cc in absurd
      (x (R.old_number ∙ g))
  back h n m a q (is_old k e) (was x y w) of = absurd (not_by q.no (h.back n m r q (stood_at n k) w of).replaced_by)
  back h n m a q (is_new k e) (was x y w) of = let l = of_less m n q w of in let i = R.number in absurd (omega arith)
  back h n m a q (was x y w) (was x' y' w') of = h.back n m a q w w' of

  newest : OneCurrent rows → (n m : ℕ) (a b : Row) → Found rows new old n a → Found rows new old m b
      → a.stack ≡ b.stack → a.name ≡ b.name
      → IsCurrent a → m ≤ n
  newest h n m a b (is_old k e) there stacks names c = let o = R.old_by in let l : old.replaced_by ≡ None =
      rw e c.last in cc
  newest h n m a b (is_new k e) (is_old k' e') stacks names c =
      let i = R.number in let o = R.old_number in let l = less r.no r R.stood in omega arith
  newest h n m a b (is_new k e) (is_new k' e') stacks names c = omega arith
  newest h n m a b (is_new k e) (was x y w) stacks names c = let i = R.number in let l = less m b w in omega arith
  newest h n m a b (was x y w) (is_old k' e') stacks names c =
      h.newest n m a r w (stood_at m k') (stacks ∙ rw (← e') R.old_stack) (names ∙ rw (← e') R.old_name) c
  newest h n m a b (was x y w) (is_new k' e') stacks names c =
      let same : a.stack ≡ r.stack = stacks ∙ rw (← e') R.stack in
      let called : a.name ≡ r.name = names ∙ rw (← e') R.name in
      let up = h.newest n r.no a r w R.stood same called c in
      let down = h.newest r.no n r a R.stood w (sym same) (sym called) R.current in
      let o = R.old_number in absurd (x (omega arith))
  newest h n m a b (was x y w) (was x' y' w') stacks names c = h.newest n m a b w w' stacks names c

  pub Chained-replaced : Chained rows → Chained (put_row old (put_row new rows))
  Chained-replaced h = record {
    rises = λ n m a at_n by. rises h n m a (found rows new old n a at_n) by;
    forth = λ n m a q at_n by at_m. forth h n m a q (found rows new old n a at_n) by (found rows new old m q at_m);
    back = λ n m a q at_n at_m of. back h n m a q (found rows new old n a at_n) (found rows new old m q at_m) of;
  }

  pub OneCurrent-replaced : OneCurrent rows → OneCurrent (put_row old (put_row new rows))
  OneCurrent-replaced h = record {
    newest = λ n m a b at_n at_m stacks names c.
        newest h n m a b (found rows new old n a at_n) (found rows new old m b at_m) stacks names c;
  }
