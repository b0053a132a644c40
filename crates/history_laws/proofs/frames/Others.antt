-- Every part of another stack stands as before.
use Rattle.std.proofs.Common.{◌≡◌, ◌≢◌, ℕ, List, Some, sym, ◌∙◌, subst}
use Rattle.step_relation.specs.State.{StateData, stack_at}
use Rattle.step_relation.specs.declared.Stack.{Stack}
use Rattle.step_relation.specs.Elsewhere.{Elsewhere}
use Rattle.step_relation.specs.GraphFits.{GraphFits, graph_of}
use Rattle.step_relation.specs.Linked.{Links}
use Rattle.step_relation.specs.MarkFits.{MarkFits}
use Rattle.step_relation.specs.RowsFit.{RowsFit}
use Rattle.history_laws.proofs.frames.Graphs.{Names, graph_fits_stays, graph_of_names, graph_of_same, rows_fit_stays}
use Rattle.history_laws.proofs.frames.Marks.{mark_fits_stays, other_covered, past_fits_stays}
use Rattle.history_laws.specs.frames.Laws.{OthersStandAsBefore}
use Rattle.history_laws.proofs.tables.Rows.{past-key, stack-key}

module _ (own : List ℕ) (s t : StateData) (E : Elsewhere own s t) (h : Links s) (name : List ℕ) (ne : name ≢ own)
    (st : Stack) (at : stack_at t.stacks name ≡ Some st) where
  called : st.name ≡ name
  called = stack-key t.stacks name st at

  away : st.name ≢ own
  away eq = ne (sym called ∙ eq)

  names : Names s st.name (graph_of s name)
  names = subst (λ (x : List ℕ). Names s x (graph_of s name)) (sym called) (graph_of_names s name)

  pub other_graph : GraphFits s st (graph_of s name) → GraphFits t st (graph_of t name)
  other_graph f = subst (GraphFits t st) (sym (graph_of_same own s t E name ne))
      (graph_fits_stays own s t E h st away (graph_of s name) names f)

  pub other_rows : RowsFit s st (graph_of s name) → RowsFit t st (graph_of t name)
  other_rows f = subst (RowsFit t st) (sym (graph_of_same own s t E name ne))
      (rows_fit_stays own s t E h st away (graph_of s name) names f)

  pub other_mark : MarkFits s st (graph_of s name) → MarkFits t st (graph_of t name)
  other_mark f = subst (MarkFits t st) (sym (graph_of_same own s t E name ne))
      (mark_fits_stays own s t E h st away (graph_of s name) names f)

pub others_stand : OthersStandAsBefore
others_stand own s t E h name ne = record {
  graphs = λ st at. other_graph own s t E h name ne st at;
  rows = λ st at. other_rows own s t E h name ne st at;
  marks = λ st at. other_mark own s t E h name ne st at;
  covered = λ st g i node old at status at_g is opened. other_covered own s t E h old name ne st g i node at status
      at_g is opened;
  pasts = λ p at. past_fits_stays own s t E p (λ eq. ne (sym (past-key t.pasts name p at) ∙ eq));
}
