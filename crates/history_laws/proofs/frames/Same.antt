-- Of a stack that a step isn't on, rows are found where they were, and targets stay.
use Rattle.std.proofs.Common.{◌≡◌, ◌≢◌, ◌<◌, inl, inr, ℕ, List, None, Option, Some, refl, sym, ◌∙◌, arith}
use Rattle.traversal_graph.specs.declared.shape.Node.{Node}
use Rattle.row_table.specs.Chains.{Leads, ends, goes}
use Rattle.row_table.specs.Rows.{row_at}
use Rattle.row_table.specs.declared.row.Row.{Row}
use Rattle.step_relation.specs.State.{StateData}
use Rattle.step_relation.specs.Targets.{IsCurrentOf, IsTarget, of_c, of_u, renewed}
use Rattle.step_relation.specs.Elsewhere.{Elsewhere}
use Rattle.step_relation.specs.Linked.{IsOf, Links, by_job, by_node, by_row}
use Rattle.step_relation.specs.Numbered.{Numbered, row_of}
use Rattle.history_laws.proofs.tables.Rows.{row-key, text_or_not}
use Rattle.history_laws.proofs.tables.Targets.{leads_stands}

-- whose number a row's is
abbrev pub Has : StateData → ℕ → List ℕ → Type 0
Has s n name = IsOf s.rows s.graphs s.jobs n name

-- a number that is a stack's was drawn
pub drawn : (s : StateData) (n : ℕ) (name : List ℕ) → Numbered s → Has s n name → n < s.next.row
drawn s n name h (by_row r at is) = let k = row-key s.rows n r at in let b = (h.rows n r at).no_ in omega arith
drawn s n name h (by_node g i node at at_i is) = let b = (h.graphs name g at).nodes i node at_i in omega arith
drawn s n name h (by_job e j at on is) = let b = (h.jobs e j at).its_row in omega arith

no_row : {o : Option Row} (q : Row) → o ≡ Some q → o ≡ None → ⊥
no_row q is none = cc

module _ (own : List ℕ) (s t : StateData) (E : Elsewhere own s t) (h : Links s) (name : List ℕ) (ne : name ≢ own) where
  not_own : (r : Row) → r.stack ≡ name → r.stack ≢ own
  not_own r is eq = ne (sym is ∙ eq)

  pub row_stays : (n : ℕ) (r : Row) → r.stack ≡ name → row_at s.rows n ≡ Some r → row_at t.rows n ≡ Some r
  row_stays n r is at = E.rows_stay n r (not_own r is) at

  pub row_was : (n : ℕ) (r : Row) → r.stack ≡ name → row_at t.rows n ≡ Some r → row_at s.rows n ≡ Some r
  row_was n r is at = E.rows n r (not_own r is) at

  -- where no row was, there is none, of a number that was drawn
  pub none_stays : (n : ℕ) → n < s.next.row → row_at s.rows n ≡ None → row_at t.rows n ≡ None
  none_stays n lt none = by (row_at t.rows n) refl where
    by : (o : Option Row) → row_at t.rows n ≡ o → row_at t.rows n ≡ None
    by None at = at
    by (Some q) at = elim (text_or_not q.stack own) [
      | inl mine ↦ elim (E.born n q mine at) [
        | inl (o, was, o_is) ↦ absurd (no_row o was none)
        | inr new ↦ absurd (omega arith)
      ]
      | inr other ↦ absurd (no_row q (E.rows n q other at) none)
    ]

  -- at a number of this stack the same row stands, or none
  pub same_row : (n : ℕ) → Has s n name → row_at t.rows n ≡ row_at s.rows n
  same_row n has = by (row_at s.rows n) refl where
    by : (o : Option Row) → row_at s.rows n ≡ o → row_at t.rows n ≡ row_at s.rows n
    by None none = none_stays n (drawn s n name h.numbered has) none ∙ sym none
    by (Some r) at = row_stays n r (h.owned.one n r.stack name (by_row r at refl) has) at ∙ sym at

  -- the row behind one of this stack
  pub next_has : (n k : ℕ) (r q : Row) → row_at s.rows n ≡ Some r → r.stack ≡ name → r.replaced_by ≡ Some k
      → row_at s.rows k ≡ Some q → Has s k name
  next_has n k r q at is by at_k = by_row q at_k ((h.chained.forth n k r q at by at_k).stack ∙ is)

  pub next_same : (n k : ℕ) (r : Row) → row_at s.rows n ≡ Some r → r.stack ≡ name → r.replaced_by ≡ Some k
      → row_at t.rows k ≡ row_at s.rows k
  next_same n k r at is by = go (row_at s.rows k) refl where
    go : (o : Option Row) → row_at s.rows k ≡ o → row_at t.rows k ≡ row_at s.rows k
    go None none = none_stays k ((h.numbered.rows n r at).replaced_by k by) none ∙ sym none
    go (Some q) at_k = same_row k (next_has n k r q at is by at_k)

  row_is : (n : ℕ) (r : Row) → Has s n name → row_at s.rows n ≡ Some r → r.stack ≡ name
  row_is n r has at = h.owned.one n r.stack name (by_row r at refl) has

  pub leads_stays : (n m : ℕ) → Has s n name → Leads s.rows n m → Leads t.rows n m
  leads_stays n m has (ends _ r at last) =
      let is : r.stack ≡ name = row_is n r has at in
      ends n r (row_stays n r is at) (λ k q by up at_k. last k q by up (sym (next_same n k r at is by) ∙ at_k))
  leads_stays n m has (goes _ k _ r at by up on) =
      let is : r.stack ≡ name = row_is n r has at in
      let (q, at_q) = leads_stands s.rows k m on in
      goes n k m r (row_stays n r is at) by up (leads_stays k m (next_has n k r q at is by at_q) on)

  pub leads_was : (n m : ℕ) → Has s n name → Leads t.rows n m → Leads s.rows n m
  leads_was n m has (ends _ r at last) =
      let was : row_at s.rows n ≡ Some r = sym (same_row n has) ∙ at in
      let is : r.stack ≡ name = row_is n r has was in
      ends n r was (λ k q by up at_k. last k q by up (next_same n k r was is by ∙ at_k))
  leads_was n m has (goes _ k _ r at by up on) =
      let was : row_at s.rows n ≡ Some r = sym (same_row n has) ∙ at in
      let is : r.stack ≡ name = row_is n r has was in
      let (q, at_q) = leads_stands t.rows k m on in
      goes n k m r was by up (leads_was k m (next_has n k r q was is by (sym (next_same n k r was is by) ∙ at_q)) on)

  -- where a chain of this stack ends is this stack's number
  pub leads_has : (n m : ℕ) → Has s n name → Leads s.rows n m → Has s m name
  leads_has n m has (ends _ r at last) = has
  leads_has n m has (goes _ k _ r at by up on) =
      let (q, at_q) = leads_stands s.rows k m on in
      leads_has k m (next_has n k r q at (row_is n r has at) by at_q) on

  pub current_stays : (word : List ℕ) (r : Row) → IsCurrentOf s.rows name word r → IsCurrentOf t.rows name word r
  current_stays word r is = record {
    found = row_stays r.no r is.stack_is is.found;
    stack_is = is.stack_is;
    name_is = is.name_is;
    current = is.current;
    greatest = λ m q at of called current. is.greatest m q (row_was m q of at) of called current;
  }

  pub current_was : (word : List ℕ) (r : Row) → IsCurrentOf t.rows name word r → IsCurrentOf s.rows name word r
  current_was word r is = record {
    found = row_was r.no r is.stack_is is.found;
    stack_is = is.stack_is;
    name_is = is.name_is;
    current = is.current;
    greatest = λ m q at of called current. is.greatest m q (row_stays m q of at) of called current;
  }

  pub target_stays : (node : Node) (m : ℕ) → Has s (row_of node) name → IsTarget s.rows name node m
      → IsTarget t.rows name node m
  target_stays node m has (of_c _) = of_c m
  target_stays node m has (of_u word n _ on) = of_u word n m (leads_stays n m has on)
  target_stays node m has (renewed word n r none is) = renewed word n r (same_row n has ∙ none)
      (current_stays word r is)

  pub target_was : (node : Node) (m : ℕ) → Has s (row_of node) name → IsTarget t.rows name node m
      → IsTarget s.rows name node m
  target_was node m has (of_c _) = of_c m
  target_was node m has (of_u word n _ on) = of_u word n m (leads_was n m has on)
  target_was node m has (renewed word n r none is) = renewed word n r (sym (same_row n has) ∙ none)
      (current_was word r is)

  pub target_has : (node : Node) (m : ℕ) → Has s (row_of node) name → IsTarget s.rows name node m → Has s m name
  target_has node m has (of_c _) = has
  target_has node m has (of_u word n _ on) = leads_has n m has on
  target_has node m has (renewed word n r none is) = by_row r is.found is.stack_is
