-- Marks, pasts and covered nodes of other stacks stay.
use Rattle.std.proofs.Common.{◌≡◌, ◌≢◌, ℕ, List, Some, refl, sym, ◌∙◌, subst}
use Rattle.std.specs.Prelude.{IsSome}
use Rattle.heat_plan.specs.declared.phase.Status.TheVariants.{InProgress}
use Rattle.traversal_graph.specs.declared.shape.Node.{Node}
use Rattle.step_relation.specs.State.{StateData, graph_at, stack_at}
use Rattle.step_relation.specs.declared.Graph.{Graph}
use Rattle.step_relation.specs.declared.Past.{Past}
use Rattle.step_relation.specs.declared.Stack.{Stack}
use Rattle.step_relation.specs.Resends.{IsOpen}
use Rattle.step_relation.specs.Elsewhere.{Elsewhere}
use Rattle.step_relation.specs.GraphFits.{IsNode}
use Rattle.step_relation.specs.Linked.{Links, by_node}
use Rattle.step_relation.specs.Numbered.{row_of}
use Rattle.step_relation.specs.MarkFits.{HasFailure, IsFailed, MarkFits, PastFits, by_clean_up, by_plan, by_row}
use Rattle.step_relation.specs.Stir.{Covered, IsCovered, lasts, waits, works}
use Rattle.history_laws.proofs.frames.Graphs.{Names, aims_stays, sweeps_stays}
use Rattle.history_laws.proofs.frames.Same.{Has, row_was, target_stays}
use Rattle.history_laws.proofs.tables.Rows.{stack-key}

module _ (own : List ℕ) (s t : StateData) (E : Elsewhere own s t) (h : Links s) (st : Stack) (ne : st.name ≢ own) where
  module _ (g : Graph) (names : Names s st.name g) where
    failed_stays : (i : ℕ) → IsFailed s st g i → IsFailed t st g i
    failed_stays i (by_row word r aims status newest) =
        by_row word r (aims_stays own s t E h st ne g names i word r aims) status newest
    failed_stays i (by_clean_up r sweeps act status newest) =
        by_clean_up r (sweeps_stays own s t E h st ne g names i r sweeps) act status newest
    failed_stays i (by_plan word n code path at fault) = by_plan word n code path at fault

    pub mark_fits_stays : MarkFits s st g → MarkFits t st g
    mark_fits_stays f = record {
      complete = f.complete;
      failing = λ n r at is status newest. f.failing n r (row_was own s t E h st.name ne n r is at) is status newest;
      failed = λ status. let k : HasFailure s st g = f.failed status in
          record { i = k.i; open_ = k.open_; failed = failed_stays k.i k.failed };
      act = f.act;
      deletes = f.deletes;
      proper = f.proper;
    }

  away : (x : List ℕ) → x ≡ st.name → x ≢ own
  away x is eq = ne (sym is ∙ eq)

  pub covered_stays : (i : ℕ) (node : Node) → Has s (row_of node) st.name → IsCovered s st i node
      → IsCovered t st i node
  covered_stays i node has (waits n l at to) = waits n l (E.letters_stay n l (away l.stack to.stack) at) to
  covered_stays i node has (works e j at to) = works e j (E.jobs_stay e j (away j.letter.stack to.stack) at) to
  covered_stays i node has (lasts e j at stale is to) =
      lasts e j (E.jobs_stay e j (away j.letter.stack is) at)
      (λ x at_x. stale x (sym (E.stacks j.letter.stack (away j.letter.stack is)) ∙ at_x)) is
      (target_stays own s t E h st.name ne node j.row has to)

-- a node of another stack is covered, by what was covered
pub other_covered : (own : List ℕ) (s t : StateData) → Elsewhere own s t → Links s → Covered s → (name : List ℕ)
    → name ≢ own
    → (st : Stack) (g : Graph) (i : ℕ) (node : Node) → stack_at t.stacks name ≡ Some st → st.status ≡ InProgress
    → graph_at t.graphs name ≡ Some g → IsNode g i node → IsOpen g i → IsCovered t st i node
other_covered own s t E h old name ne st g i node at status at_g is opened =
    let at_s : stack_at s.stacks name ≡ Some st = sym (E.stacks name ne) ∙ at in
    let at_gs : graph_at s.graphs name ≡ Some g = sym (E.graphs name ne) ∙ at_g in
    let called : st.name ≡ name = stack-key s.stacks name st at_s in
    covered_stays own s t E h st (λ eq. ne (sym called ∙ eq)) i node
    (by_node g i node (subst (λ (x : List ℕ). graph_at s.graphs x ≡ Some g) (sym called) at_gs) is refl)
    (old.each name st g i node at_s status at_gs is opened)

pub past_fits_stays : (own : List ℕ) (s t : StateData) → Elsewhere own s t → (p : Past) → p.stack ≢ own → PastFits s p
    → PastFits t p
past_fits_stays own s t E p ne f = record {
  in_table = subst IsSome (sym (E.stacks p.stack ne)) f.in_table;
  forward = λ st at act. f.forward st (sym (E.stacks p.stack ne) ∙ at) act;
  proper = f.proper;
}
