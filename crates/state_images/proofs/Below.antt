-- What is below a number: of all, or of each that stands.
use Rattle.std.proofs.Common.{◌<◌, ℕ}
use Rattle.std.specs.Prelude.{All, ◌↔◌}
use Rattle.core_state.specs.declared.Input.{Input}
use Rattle.core_state.specs.declared.Row.{Row}
use Rattle.core_state.specs.declared.graph.Graph.{Graph}
use Rattle.step_relation.specs.Numbered.{GraphBelow, RowBelow}
use Rattle.state_images.specs.Ties.{HasLowInputs, HasLowRow, NamedBelow, OwnBelow}
use Rattle.state_images.proofs.Listed.{all_of_each, at_has, each_of_all, has_at}

pub graph_below : (next : ℕ) (g : Graph) → (All (HasLowRow next) g.graph.nodes × All (HasLowInputs next) g.points) ↔ GraphBelow next g
graph_below next g = (
  (λ both. record {
    nodes = λ i node at. each_of_all (HasLowRow next) g.graph.nodes both.0 node (at_has g.graph.nodes i node at);
    inputs = λ i p x at among. each_of_all (λ (y : Input). y.row < next) p.inputs
        (each_of_all (HasLowInputs next) g.points both.1 p (at_has g.points i p at)) x among;
  }),
  (λ below. (
    all_of_each (HasLowRow next) g.graph.nodes (λ node c. let (i, at) = has_at g.graph.nodes node c in below.nodes i node at),
    all_of_each (HasLowInputs next) g.points (λ p c. let (i, at) = has_at g.points p c in
        all_of_each (λ (y : Input). y.row < next) p.inputs (λ x among. below.inputs i p x at among)),
  )),
)

pub row_below : (row trav engine : ℕ) (r : Row) → (OwnBelow row trav engine r × NamedBelow row r) ↔ RowBelow row trav engine r
row_below row trav engine r = (
  (λ both. record {
    no_ = both.0.no_;
    newest = both.0.newest;
    required = both.1.required;
    replaces = both.1.replaces;
    replaced_by = both.1.replaced_by;
    holder = both.0.holder;
  }),
  (λ below. (
    record { no_ = below.no_; newest = below.newest; holder = below.holder },
    record { required = below.required; replaces = below.replaces; replaced_by = below.replaced_by },
  )),
)
