-- The graph and the rows of a stack fit as before, when a step is on another.
use Rattle.std.proofs.Common.{◌≡◌, ◌≢◌, inl, inr, ℕ, List, None, Option, Some, refl, sym, ap, ◌∙◌}
use Rattle.std.specs.Prelude.{[], slice_get}
use Rattle.traversal_graph.specs.declared.shape.Node.{Node}
use Rattle.traversal_graph.specs.declared.shape.Node.TheVariants.{C, U}
use Rattle.row_table.specs.declared.row.Row.{Row}
use Rattle.sync_points.specs.declared.point.Input.{Input}
use Rattle.step_relation.specs.State.{StateData, graph_at}
use Rattle.step_relation.specs.declared.Graph.{Graph}
use Rattle.step_relation.specs.declared.Stack.{Stack}
use Rattle.step_relation.specs.Targets.{IsTarget}
use Rattle.step_relation.specs.Elsewhere.{Elsewhere}
use Rattle.step_relation.specs.GraphFits.{Aims, EdgesFit, GraphFits, InputsFit, IsInput, IsNode, Stands, Sweeps, TargetFits}
use Rattle.step_relation.specs.GraphFits.{TargetsFit, graph_of, graph_or, of_c, of_u}
use Rattle.step_relation.specs.Linked.{Links, by_node}
use Rattle.step_relation.specs.Numbered.{row_of}
use Rattle.step_relation.specs.RowsFit.{RowsFit}
use Rattle.history_laws.proofs.frames.Same.{Has, current_stays, row_was, same_row, target_has, target_stays, target_was}

-- the nodes of this graph name rows of this stack
abbrev pub Names : StateData → List ℕ → Graph → Type 0
Names s name g = (i : ℕ) (node : Node) → IsNode g i node → Has s (row_of node) name

pub graph_names : (s : StateData) (name : List ℕ) (g : Graph) → graph_at s.graphs name ≡ Some g → Names s name g
graph_names s name g at i node at_i = by_node g i node at at_i refl

pub graph_of_names : (s : StateData) (name : List ℕ) → Names s name (graph_of s name)
graph_of_names s name = by (graph_at s.graphs name) refl where
  by : (o : Option Graph) → graph_at s.graphs name ≡ o → Names s name (graph_or name o)
  by None at i node at_i = absurd (none node at_i) where
    none : (node : Node) → slice_get [] i ≡ Some node → ⊥
    none node e = cc
  by (Some g) at i node at_i = graph_names s name g at i node at_i

pub graph_of_same : (own : List ℕ) (s t : StateData) → Elsewhere own s t → (name : List ℕ) → name ≢ own
    → graph_of t name ≡ graph_of s name
graph_of_same own s t E name ne = ap (graph_or name) (E.graphs name ne)

module _ (own : List ℕ) (s t : StateData) (E : Elsewhere own s t) (h : Links s) (st : Stack) (ne : st.name ≢ own)
    (g : Graph) (names : Names s st.name g) where
  pub aims_stays : (i : ℕ) (word : List ℕ) (r : Row) → Aims s st g i word r → Aims t st g i word r
  aims_stays i word r aims =
      let has = names i (U word aims.chosen) aims.node in record {
        chosen = aims.chosen;
        node = aims.node;
        to = target_stays own s t E h st.name ne (U word aims.chosen) r.no has aims.to;
        found = same_row own s t E h st.name ne r.no
            (target_has own s t E h st.name ne (U word aims.chosen) r.no has aims.to) ∙ aims.found;
      }

  pub aims_was : (i : ℕ) (word : List ℕ) (r : Row) → Aims t st g i word r → Aims s st g i word r
  aims_was i word r aims =
      let has = names i (U word aims.chosen) aims.node in
      let to : IsTarget s.rows st.name (U word aims.chosen) r.no =
      target_was own s t E h st.name ne (U word aims.chosen) r.no has aims.to in
      record {
        chosen = aims.chosen;
        node = aims.node;
        to = to;
        found = sym (same_row own s t E h st.name ne r.no
            (target_has own s t E h st.name ne (U word aims.chosen) r.no has to)) ∙ aims.found;
      }

  pub sweeps_stays : (i : ℕ) (r : Row) → Sweeps s g i r → Sweeps t g i r
  sweeps_stays i r sweeps = record {
    node = sweeps.node;
    found = same_row own s t E h st.name ne r.no (names i (C r.no) sweeps.node) ∙ sweeps.found;
  }

  pub sweeps_was : (i : ℕ) (r : Row) → Sweeps t g i r → Sweeps s g i r
  sweeps_was i r sweeps = record {
    node = sweeps.node;
    found = sym (same_row own s t E h st.name ne r.no (names i (C r.no) sweeps.node)) ∙ sweeps.found;
  }

  edges_stay : EdgesFit s st g → EdgesFit t st g
  edges_stay f = record {
    needed = f.needed;
    needs = f.needs;
    behind = λ i k n r at sweeps. f.behind i k n r at (sweeps_was k r sweeps);
  }

  target_fits_stays : (i n : ℕ) (word : List ℕ) (r : Row) → IsNode g i (U word n) → TargetFits s st word n r
      → TargetFits t st word n r
  target_fits_stays i n word r at f =
      let has = names i (U word n) at in record {
        to = target_stays own s t E h st.name ne (U word n) r.no has f.to;
        is = current_stays own s t E h st.name ne word r f.is;
        from = λ q at_q. f.from q (sym (same_row own s t E h st.name ne n has) ∙ at_q);
        kept = f.kept;
      }

  targets_stay : TargetsFit s st g → TargetsFit t st g
  targets_stay f = record {
    updates = λ i n word at. let (r, fits) = f.updates i n word at in (r, target_fits_stays i n word r at fits);
    cleanups = λ i r sweeps. f.cleanups i r (sweeps_was i r sweeps);
    rows = λ n r at is. elim (f.rows n r (row_was own s t E h st.name ne n r is at) is) [
      | inl (i, aims) ↦ inl (i, aims_stays i r.name r aims)
      | inr (i, node) ↦ inr (i, node)
    ];
    old = λ n r at is other begun. f.old n r (row_was own s t E h st.name ne n r is at) is other begun;
  }

  input_stays : (x : Input) → IsInput s st g x → IsInput t st g x
  input_stays x (of_u word r aims called row facts) = of_u word r (aims_stays x.from word r aims) called row facts
  input_stays x (of_c n at unnamed row facts) = of_c n at unnamed row facts

  inputs_stay : InputsFit s st g → InputsFit t st g
  inputs_stay f = record {
    ready = f.ready;
    stand = λ i p x at has. let k : Stands s st g i x = f.stand i p x at has in
        record { edge = k.edge; done = k.done; its = input_stays x k.its };
    given = f.given;
    once = f.once;
  }

  pub graph_fits_stays : GraphFits s st g → GraphFits t st g
  graph_fits_stays f = record {
    nodes = f.nodes;
    edges = edges_stay f.edges;
    targets = targets_stay f.targets;
    inputs = inputs_stay f.inputs;
  }

  pub rows_fit_stays : RowsFit s st g → RowsFit t st g
  rows_fit_stays f = record {
    begun = λ i word r aims newest act. f.begun i word r (aims_was i word r aims) newest act;
    made = λ i word r aims done. f.made i word r (aims_was i word r aims) done;
    cleaned = λ i r sweeps done. f.cleaned i r (sweeps_was i r sweeps) done;
  }
