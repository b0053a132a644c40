-- An open node is covered again, by what covered it: `by_carry`; and two open nodes never have one target: `same_node`.
use Rattle.std.proofs.Common.{◌≡◌, ◌⊎◌, inl, inr, ℕ, List, Some, sym, ap, ◌∙◌, subst}
use Rattle.heat_plan.specs.declared.phase.Status.TheVariants.{InProgress}
use Rattle.traversal_graph.specs.Builds.{Joins}
use Rattle.traversal_graph.specs.declared.shape.Node.{Node}
use Rattle.traversal_graph.specs.declared.shape.Node.TheVariants.{C, U}
use Rattle.row_table.specs.Rows.{row_at}
use Rattle.row_table.specs.declared.row.Row.{Row}
use Rattle.mail_table.specs.Mails.{job_at, letter_at}
use Rattle.mail_table.specs.declared.mail.Job.{Job}
use Rattle.mail_table.specs.declared.mail.Letter.{Letter}
use Rattle.core_state.specs.Reads.{HasInput, IsDone}
use Rattle.core_state.specs.State.{StateData, graph_at, stack_at}
use Rattle.core_state.specs.declared.graph.Graph.{Graph}
use Rattle.core_state.specs.declared.stack.Stack.{Stack}
use Rattle.step_relation.specs.Resends.{IsOpen}
use Rattle.step_relation.specs.Targets.{IsTarget, of_c}
use Rattle.step_relation.specs.GraphFits.{GraphFits, IsNode, Stands, TargetFits}
use Rattle.step_relation.specs.MailFits.{IsNewest, IsStale}
use Rattle.step_relation.specs.Sound.{Standing}
use Rattle.step_relation.specs.Stir.{Covered, IsCovered, IsTo, lasts, waits, works}
use Rattle.history_laws.proofs.tables.Rows.{row-key, same_or_not, same_some, stack-key}
use Rattle.history_laws.proofs.tables.Targets.{cleanup_target, target_once}
use Rattle.graph_laws.proofs.jobs.Onward.{Grounds, graph_there, target_in}

-- a node that is ready and not done, of a stack without a mark
pub record OpenAt (s : StateData) (st : Stack) (g : Graph) (i : ℕ) (node : Node) : Type 0 where
  pub in_table : stack_at s.stacks st.name ≡ Some st
  pub unmarked : st.status ≡ InProgress
  pub its_graph : graph_at s.graphs st.name ≡ Some g
  pub its_node : IsNode g i node
  pub open_ : IsOpen g i

-- what covers a node in s covers it in t, or something else does
pub record Carry (s t : StateData) (st : Stack) (i : ℕ) (node : Node) : Type 0 where
  pub letters : (n : ℕ) (l : Letter) → letter_at s.letters n ≡ Some l → IsTo st i l → IsCovered t st i node
  pub works : (e : ℕ) (j : Job) → job_at s.jobs e ≡ Some j → IsTo st i j.letter → IsCovered t st i node
  pub lasts : (e : ℕ) (j : Job) → job_at s.jobs e ≡ Some j → IsStale s.stacks j.letter → j.letter.stack ≡ st.name
      → IsTarget s.rows st.name node j.row → IsCovered t st i node

pub carry_on : (s t : StateData) (st : Stack) (i : ℕ) (node : Node) → Carry s t st i node → IsCovered s st i node
    → IsCovered t st i node
carry_on s t st i node c (waits n l at to) = c.letters n l at to
carry_on s t st i node c (works e j at to) = c.works e j at to
carry_on s t st i node c (lasts e j at stale is to) = c.lasts e j at stale is to

pub by_carry : (s t : StateData) → Standing s
    → ((name : List ℕ) (st : Stack) → stack_at t.stacks name ≡ Some st → st.status ≡ InProgress
    → stack_at s.stacks name ≡ Some st)
    → t.graphs ≡ s.graphs
    → ((st : Stack) (g : Graph) (i : ℕ) (node : Node) → OpenAt s st g i node → stack_at t.stacks st.name ≡ Some st
    → Carry s t st i node) → Covered t
by_carry s t h stacks graphs carry = record {
  each = λ name st g i node at unmarked at_g at_i open_.
      let was = stacks name st at unmarked in
      let at_gs : graph_at s.graphs name ≡ Some g = subst (λ (x : List Graph). graph_at x name ≡ Some g) graphs at_g in
      let called : st.name ≡ name = stack-key s.stacks name st was in
      carry_on s t st i node (carry st g i node (record {
        in_table = subst (λ (x : List ℕ). stack_at s.stacks x ≡ Some st) (sym called) was;
        unmarked = unmarked;
        its_graph = subst (λ (x : List ℕ). graph_at s.graphs x ≡ Some g) (sym called) at_gs;
        its_node = at_i;
        open_ = open_;
      }) (subst (λ (x : List ℕ). stack_at t.stacks x ≡ Some st) (sym called) at))
      (h.covered.each name st g i node was unmarked at_gs at_i open_);
}

-- two open nodes with one target are one
module _ (s : StateData) (h : Standing s) (st : Stack) (at_st : stack_at s.stacks st.name ≡ Some st) (g : Graph)
    (at_g : graph_at s.graphs st.name ≡ Some g) where
  pub its_fits : GraphFits s st g
  its_fits = subst (GraphFits s st) (graph_there s st.name g at_g) (h.shape.graphs st.name st at_st)

  pub aimed : (i n m : ℕ) (word : List ℕ) → IsNode g i (U word n) → IsTarget s.rows st.name (U word n) m
      → (q : Row) × (row_at s.rows m ≡ Some q) × TargetFits s st word n q
  aimed i n m word at to =
      let (q, f) = its_fits.targets.updates i n word at in (
        q,
        subst (λ (x : ℕ). row_at s.rows x ≡ Some q)
            (target_once s.rows st.name (U word n) q.no m f.to to) f.is.found,
        f,
      )

  -- the clean-up node of a target is behind its update node
  behind : (i k n c m : ℕ) (word : List ℕ) → IsNode g i (U word n) → IsNode g k (C c) → ¬ IsDone g i → IsOpen g k
      → IsTarget s.rows st.name (U word n) m → IsTarget s.rows st.name (C c) m → ⊥
  behind i k n c m word at_i at_k undone open_ to_i to_k =
      let (q, at_q, f) = aimed i n m word at_i to_i in
      let number : q.no ≡ c = row-key s.rows m q at_q ∙ sym (cleanup_target s.rows st.name c m to_k) in
      let edge : Joins g.graph.edges i k = its_fits.edges.behind i k n q
      (subst (λ (x : List ℕ). IsNode g i (U x n)) (sym f.is.name_is) at_i)
      (record { node = subst (λ (x : ℕ). IsNode g k (C x)) (sym number) at_k; found = f.is.found }) in
      let given : HasInput g k i = open_.ready i edge in
      let it : Stands s st g k given.input = its_fits.inputs.stand k given.point given.input given.there given.among in
      undone (subst (IsDone g) given.from it.done)

  pub same_node : (i k m : ℕ) (a b : Node) → IsNode g i a → IsNode g k b → IsOpen g i → IsOpen g k
      → IsTarget s.rows st.name a m
      → IsTarget s.rows st.name b m → i ≡ k
  same_node i k m (U x n) (U y c) at_i at_k open_i open_k to_i to_k =
      let (q, at_q, f) = aimed i n m x at_i to_i in
      let (p, at_p, f') = aimed k c m y at_k to_k in
      let called : x ≡ y = sym f.is.name_is ∙ (ap (λ (r : Row). r.name) (same_some q p at_q at_p) ∙ f'.is.name_is) in
      its_fits.nodes.one_update i k n c y (subst (λ (w : List ℕ). IsNode g i (U w n)) called at_i) at_k
  same_node i k m (C n) (C c) at_i at_k open_i open_k to_i to_k =
      let same : n ≡ c = cleanup_target s.rows st.name n m to_i ∙ sym (cleanup_target s.rows st.name c m to_k) in
      its_fits.nodes.one_cleanup i k c (subst (λ (x : ℕ). IsNode g i (C x)) same at_i) at_k
  same_node i k m (U x n) (C c) at_i at_k open_i open_k to_i to_k =
      absurd (behind i k n c m x at_i at_k open_i.undone open_k to_i to_k)
  same_node i k m (C n) (U y c) at_i at_k open_i open_k to_i to_k =
      absurd (behind k i c n m y at_k at_i open_k.undone open_i to_k to_i)

-- a node's target stays where its row does
pub target_on : (s t : StateData) → Standing s → Grounds t → t.graphs ≡ s.graphs
    → (st : Stack) (g : Graph) (i : ℕ) (node : Node) → OpenAt s st g i node
    → stack_at t.stacks st.name ≡ Some st → (m : ℕ) → row_at t.rows m ≡ row_at s.rows m → IsTarget s.rows st.name node m
    → IsTarget t.rows st.name node m
target_on s t h b graphs st g i (C n) o at m same to =
    subst (λ (x : ℕ). IsTarget t.rows st.name (C n) x) (cleanup_target s.rows st.name n m to) (of_c n)
target_on s t h b graphs st g i (U word n) o at m same to =
    let (q, at_q, f) = aimed s h st o.in_table g o.its_graph i n m word o.its_node to in
    target_in t b st.name st at g (subst (λ (x : List Graph). graph_at x st.name ≡ Some g) (sym graphs) o.its_graph) i n
    m word o.its_node q
    (same ∙ at_q) f.is.stack_is f.is.name_is f.is.current

-- a job is of the newest traversal of this stack, or stale
pub newest_or_stale : (s : StateData) (st : Stack) (l : Letter) → stack_at s.stacks st.name ≡ Some st
    → l.stack ≡ st.name
    → (l.trav ≡ st.trav) ⊎ IsStale s.stacks l
newest_or_stale s st l at is = elim (same_or_not l.trav st.trav) [
  | inl same ↦ inl same
  | inr ne ↦ inr (λ x at_x eq.
      let e : st ≡ x = same_some st x at (subst (λ (y : List ℕ). stack_at s.stacks y ≡ Some x) is at_x) in
      ne (sym eq ∙ ap (λ (y : Stack). y.trav) (sym e)))
]

-- a letter to a node of the newest traversal isn't stale
pub to_is_newest : (s : StateData) (st : Stack) (i : ℕ) (l : Letter) → stack_at s.stacks st.name ≡ Some st → IsTo st i l
    → IsNewest s l st
to_is_newest s st i l at to = record {
  in_table = subst (λ (y : List ℕ). stack_at s.stacks y ≡ Some st) (sym to.stack) at;
  newest = sym to.newest;
}
