-- What stands for rows and for targets that are far, where one row is written, replaced or goes.
use Rattle.std.proofs.Common.{◌≡◌, ◌≢◌, ◌⊎◌, inl, inr, ◌≤◌, ℕ, ◌+◌, List, Some, refl, sym, ap, subst, ◌∙◌, arith}
use Rattle.std.specs.Prelude.{slice_get}
use Rattle.heat_plan.specs.declared.phase.Act.TheVariants.{Init}
use Rattle.heat_plan.specs.declared.token.Token.{Token}
use Rattle.traversal_graph.specs.declared.shape.Node.TheVariants.{U}
use Rattle.traversal_graph.specs.declared.shape.TravGraph.{TravGraph}
use Rattle.row_table.specs.Chains.{IsCurrent}
use Rattle.row_table.specs.Rows.{cut_row, put_row, row_at}
use Rattle.row_table.specs.declared.row.Row.{Row}
use Rattle.core_state.specs.State.{StateData, graph_at, stack_at}
use Rattle.core_state.specs.declared.graph.Graph.{Graph}
use Rattle.core_state.specs.declared.stack.Stack.{Stack}
use Rattle.step_relation.specs.Rows.{token_of}
use Rattle.step_relation.specs.Targets.{IsCurrentOf, IsTarget}
use Rattle.step_relation.specs.GraphFits.{TargetFits}
use Rattle.step_relation.specs.Sound.{Standing}
use Rattle.history_laws.proofs.tables.Facts.{graph_here}
use Rattle.history_laws.proofs.tables.Rows.{row-key, row_cut, row_put, row_self, same_or_not, same_some, stack-key}
use Rattle.history_laws.proofs.tables.Targets.{target_once}
use Rattle.bound_laws.specs.Bound.{IsWork}
use Rattle.bound_laws.specs.Rolls.{MayRoll, RollFar}
use Rattle.bound_laws.proofs.Jobs.{RowsWere}
use Rattle.bound_laws.proofs.Sets.{at_most, fewer, one_more}
use Rattle.bound_laws.proofs.Still.{Eases}

-- at INIT, or of another traversal
abbrev pub IsFar : ℕ → Row → Type 0
IsFar trav r = (r.act ≡ Init) ⊎ (r.trav ≢ trav)

-- a current row that is far was there, current and far
pub record RowsNear (s t : StateData) : Type 0 where
  pub near : (st : Stack) (n : ℕ) (q : Row) → MayRoll s q.stack st → row_at t.rows n ≡ Some q → IsCurrent q
      → IsFar st.trav q
      → (o : Row) × (row_at s.rows n ≡ Some o) × (o.stack ≡ q.stack) × (o.name ≡ q.name) × IsCurrent o × IsFar st.trav o

-- the tokens of rows
pub were_same : (s t : StateData) → t.rows ≡ s.rows → RowsWere s t
were_same s t is = record { were = λ n r at lt. (r, subst (λ (l : List Row). row_at l n ≡ Some r) is at, refl) }

pub were_put : (s t : StateData) (r q : Row) → row_at s.rows q.no ≡ Some r → token_of q ≡ token_of r
    → t.rows ≡ put_row q s.rows → RowsWere s t
were_put s t r q at token is = record {
  were = λ n x found lt. elim (row_put q s.rows (subst (λ (l : List Row). row_at l n ≡ Some x) is found)) [
    | inl new ↦ (r, subst (λ (k : ℕ). row_at s.rows k ≡ Some r) new.0 at, ap token_of (sym new.1) ∙ token)
    | inr old ↦ (x, old.1, refl)
  ];
}

pub were_cut : (s t : StateData) (c : ℕ) → t.rows ≡ cut_row c s.rows → RowsWere s t
were_cut s t c is = record {
  were = λ n x found lt.
      (x, (row_cut c s.rows (subst (λ (l : List Row). row_at l n ≡ Some x) is found)).1, refl);
}

-- what is far
pub near_same : (s t : StateData) → t.rows ≡ s.rows → RowsNear s t
near_same s t is = record {
  near = λ st n q may at current far.
      (q, subst (λ (l : List Row). row_at l n ≡ Some q) is at, refl, refl, current, far);
}

pub near_put : (s t : StateData) (r q : Row) → row_at s.rows q.no ≡ Some r → token_of q ≡ token_of r
    → t.rows ≡ put_row q s.rows → (IsCurrent q → IsCurrent r)
    → ((st : Stack) → MayRoll s q.stack st → IsFar st.trav q → IsFar st.trav r) → RowsNear s t
near_put s t r q at token is current far = record {
  near = λ st n x may found now away. elim (row_put q s.rows (subst (λ (l : List Row). row_at l n ≡ Some x) is found)) [
    | inl new ↦ by st n x may now away new.0 new.1
    | inr old ↦ (x, old.1, refl, refl, now, away)
  ];
} where
  by : (st : Stack) (n : ℕ) (x : Row) → MayRoll s x.stack st → IsCurrent x → IsFar st.trav x → q.no ≡ n → q ≡ x
      → (o : Row) × (row_at s.rows n ≡ Some o) × (o.stack ≡ x.stack) × (o.name ≡ x.name) × IsCurrent o × IsFar st.trav o
  by st n x may now away number same = (
    r,
    subst (λ (k : ℕ). row_at s.rows k ≡ Some r) number at,
    ap (λ (y : Token). y.stack) (sym token) ∙ ap (λ (y : Row). y.stack) same,
    ap (λ (y : Token). y.name) (sym token) ∙ ap (λ (y : Row). y.name) same,
    current (subst IsCurrent (sym same) now),
    far st (subst (λ (y : Row). MayRoll s y.stack st) (sym same) may) (subst (IsFar st.trav) (sym same) away),
  )

pub near_cut : (s t : StateData) (c : ℕ) → t.rows ≡ cut_row c s.rows → RowsNear s t
near_cut s t c is = record {
  near = λ st n q may found current far.
      (q, (row_cut c s.rows (subst (λ (l : List Row). row_at l n ≡ Some q) is found)).1, refl, refl, current, far);
}

-- the target of an update node is its name's current row
module _ (s : StateData) (h : Standing s) (x : List ℕ × ℕ) (st : Stack) (g : Graph) (name : List ℕ)
    (chosen : ℕ) (r : Row)
    (in_table : stack_at s.stacks x.0 ≡ Some st) (its_graph : graph_at s.graphs x.0 ≡ Some g)
    (its_node : slice_get g.graph.nodes x.1 ≡ Some (U name chosen)) where
  named : st.name ≡ x.0
  named = stack-key s.stacks x.0 st in_table

  fits : (q : Row) × TargetFits s st name chosen q
  fits = let f = h.shape.graphs x.0 st in_table in
      f.targets.updates x.1 chosen name (subst (λ (y : Graph). slice_get y.graph.nodes x.1 ≡ Some (U name chosen))
      (sym (graph_here s x.0 g its_graph)) its_node)

  pub target_current : IsTarget s.rows x.0 (U name chosen) r.no → row_at s.rows r.no ≡ Some r
      → IsCurrentOf s.rows x.0 name r
  target_current to found =
      let (q, is) = fits in
      let number : r.no ≡ q.no = target_once s.rows x.0 (U name chosen) r.no q.no to
      (subst (λ (n : List ℕ). IsTarget s.rows n (U name chosen) q.no) named is.to) in
      let same : q ≡ r = same_some q r is.is.found (subst (λ (k : ℕ). row_at s.rows k ≡ Some r) number found) in
      subst (λ (n : List ℕ). IsCurrentOf s.rows n name r) named (subst (IsCurrentOf s.rows st.name name) same is.is)

  -- and the current row is the target
  pub current_target : row_at s.rows r.no ≡ Some r → r.stack ≡ x.0 → r.name ≡ name → IsCurrent r
      → IsTarget s.rows x.0 (U name chosen) r.no
  current_target found of called current =
      let (q, is) = fits in
      let of_x : IsCurrentOf s.rows x.0 name q = subst (λ (n : List ℕ). IsCurrentOf s.rows n name q) named is.is in
      let le : r.no ≤ q.no = of_x.greatest r.no r found of called current in
      let ge : q.no ≤ r.no = h.links.current.newest r.no q.no r q found of_x.found (of ∙ sym of_x.stack_is)
      (called ∙ sym of_x.name_is) current in
      let number : q.no ≡ r.no = omega (arith, le, ge) in
      subst (IsTarget s.rows x.0 (U name chosen)) number
      (subst (λ (n : List ℕ). IsTarget s.rows n (U name chosen) q.no) named is.to)

module _ (before after : Token → ℕ) (s t : StateData) (ease : Eases s t) (hs : Standing s) (ht : Standing t)
    (near : RowsNear s t) where
  pub far_was : (x : List ℕ × ℕ) → RollFar t x → RollFar s x
  far_was x f =
      let may = ease.may x.0 f.stack f.may in
      let current = target_current t ht x f.stack f.graph f.name f.chosen f.row f.may.in_table f.its_graph f.its_node
      f.to f.found in
      let (older, its_graph, alike) = ease.graphs x.0 f.graph f.its_graph in
      let its_node = subst (λ (y : TravGraph). slice_get y.nodes x.1 ≡ Some (U f.name f.chosen))
      (sym alike) f.its_node in
      let (o, at, of, called, now, away) = near.near f.stack f.row.no f.row
      (subst (λ (n : List ℕ). MayRoll s n f.stack) (sym current.stack_is) may) f.found current.current f.far in
      let number : o.no ≡ f.row.no = row-key s.rows f.row.no o at in
      let found : row_at s.rows o.no ≡ Some o = row_self s.rows f.row.no o at in
      record {
        stack = f.stack;
        may = may;
        graph = older;
        name = f.name;
        chosen = f.chosen;
        row = o;
        its_graph = its_graph;
        its_node = its_node;
        to = current_target s hs x f.stack older f.name f.chosen o may.in_table its_graph its_node found
            (of ∙ current.stack_is) (called ∙ current.name_is) now;
        found = found;
        far = away;
      }

  module _ (n m : ℕ) (a : IsWork before s n) (b : IsWork after t m) where
    pub far_falls : b.rolls_are.far ≤ a.rolls_are.far
    far_falls = at_most b.rolls_are.far_are a.rolls_are.far_are far_was

    pub far_goes : (x : List ℕ × ℕ) → RollFar s x → ¬ RollFar t x → b.rolls_are.far + 1 ≤ a.rolls_are.far
    far_goes x has hasnt = fewer b.rolls_are.far_are a.rolls_are.far_are far_was x has hasnt

-- rows of stacks that may roll
module _ (before after : Token → ℕ) (s t : StateData) (ease : Eases s t) (n m : ℕ) (a : IsWork before s n)
    (b : IsWork after t m) where
  pub rows_fall : ((i : ℕ) (r : Row) → row_at t.rows i ≡ Some r → (o : Row) × (row_at s.rows i ≡ Some o)
      × (token_of r ≡ token_of o)) → b.rolls_are.rows ≤ a.rolls_are.rows
  rows_fall were = at_most b.rolls_are.rows_are a.rolls_are.rows_are
      (λ i x. let (o, at, token) = were i x.row x.found in record {
        row = o;
        found = at;
        stack = x.stack;
        may = subst (λ (y : Token). MayRoll s y.stack x.stack) token (ease.may x.row.stack x.stack x.may);
      })

  -- a row comes
  pub row_comes : (c : ℕ) → ((i : ℕ) (r : Row) → i ≢ c → row_at t.rows i ≡ Some r
      → (o : Row) × (row_at s.rows i ≡ Some o) × (token_of r ≡ token_of o))
      → b.rolls_are.rows ≤ a.rolls_are.rows + 1
  row_comes c were = one_more b.rolls_are.rows_are a.rolls_are.rows_are c (λ i x. elim (same_or_not i c) [
    | inl is ↦ inr is
    | inr ne ↦ (let (o, at, token) = were i x.row ne x.found in inl (record {
      row = o;
      found = at;
      stack = x.stack;
      may = subst (λ (y : Token). MayRoll s y.stack x.stack) token (ease.may x.row.stack x.stack x.may);
    }))
  ])

  -- one comes to a stack that isn't to roll
  pub row_beside : (c : ℕ) (own : List ℕ) → ((st : Stack) → ¬ MayRoll s own st)
      → ((r : Row) → row_at t.rows c ≡ Some r → r.stack ≡ own)
      → ((i : ℕ) (r : Row) → i ≢ c → row_at t.rows i ≡ Some r → (o : Row) × (row_at s.rows i ≡ Some o)
      × (token_of r ≡ token_of o))
      → b.rolls_are.rows ≤ a.rolls_are.rows
  row_beside c own never its were = at_most b.rolls_are.rows_are a.rolls_are.rows_are (λ i x. elim (same_or_not i c) [
    | inl is ↦ absurd (never x.stack (subst (λ (k : List ℕ). MayRoll s k x.stack)
        (its x.row (subst (λ (k : ℕ). row_at t.rows k ≡ Some x.row) is x.found))
        (ease.may x.row.stack x.stack x.may)))
    | inr ne ↦ (let (o, at, token) = were i x.row ne x.found in record {
      row = o;
      found = at;
      stack = x.stack;
      may = subst (λ (y : Token). MayRoll s y.stack x.stack) token (ease.may x.row.stack x.stack x.may);
    })
  ])
