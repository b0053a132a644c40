-- What a node was given, and what it gives.
use Rattle.std.specs.List.{list_any}
use Rattle.std.specs.Prelude.{Bool, Contains, List, None, Option, Some, [], cond, false, map, slice_get, unwrap_or, ℕ}
use Rattle.std.specs.Prelude.{◌++◌, ◌==◌, ◌||◌, ◌∷◌, ◌≡◌}
use Rattle.heat_plan.specs.declared.facts.Facts.{Facts}
use Rattle.heat_plan.specs.declared.facts.KnownFacts.{KnownFacts}
use Rattle.traversal_graph.specs.declared.shape.Node.{Node}
use Rattle.traversal_graph.specs.declared.shape.Node.TheVariants.{C, U}
use Rattle.row_table.specs.declared.row.Row.{Row}
use Rattle.sync_points.specs.declared.point.Input.{Input}
use Rattle.sync_points.specs.declared.point.Point.{Point}
use Rattle.core_state.specs.Changes.{with_point}
use Rattle.core_state.specs.Reads.{IsDone}
use Rattle.core_state.specs.declared.graph.Graph.{Graph}

-- an update node gave this row
pub record IsRequired (inputs : List Input) (number : ℕ) : Type 0 where
  pub input : Input
  pub among : Contains inputs input
  pub name : List ℕ
  pub named : input.name ≡ Some name
  pub row : input.row ≡ number

-- the facts that an input of this name gave
pub record IsGiven (inputs : List Input) (name : List ℕ) (known : KnownFacts) : Type 0 where
  pub input : Input
  pub among : Contains inputs input
  pub named : input.name ≡ Some name
  pub facts : input.facts ≡ Some known.facts
  pub known_name : known.name ≡ name

-- the facts of those of these names that were given, in the names' order
pub data AreKnown (inputs : List Input) : List (List ℕ) → List KnownFacts → Type 0 where
  none : AreKnown inputs [] []
  given : (need : List ℕ) (needs : List (List ℕ)) (it : KnownFacts) (known : List KnownFacts) → IsGiven inputs need it
      → AreKnown inputs needs known → AreKnown inputs (need ∷ needs) (it ∷ known)
  missing : (need : List ℕ) (needs : List (List ℕ)) (known : List KnownFacts)
      → ((it : KnownFacts) → ¬ IsGiven inputs need it)
      → AreKnown inputs needs known → AreKnown inputs (need ∷ needs) known

-- the input that a node gives: its name, its row and that row's facts, or its row alone
abbrev pub input_of : ℕ → Node → ℕ → Option Row → Input
input_of from (U name chosen) number row =
    record { from = from; name = Some name; row = number; facts = facts_in row } where
      facts_in : Option Row → Option Facts
      facts_in (Some r) = r.facts
      facts_in None = None
input_of from (C n) number row = record { from = from; name = None; row = n; facts = None }

-- an input from this node is there
abbrev pub has_from : ℕ → List Input → Bool
has_from from inputs = list_any (λ (x : Input). x.from == from) inputs

-- the input is gathered, once
abbrev pub gathered : Input → List Input → List Input
gathered x inputs = cond (has_from x.from inputs) inputs (inputs ++ x ∷ [])

-- one of these numbers
abbrev pub is_among : ℕ → List ℕ → Bool
is_among k numbers = list_any (λ n. n == k) numbers

-- the point of a node
abbrev pub point_at : Graph → ℕ → Point
point_at g k = unwrap_or (slice_get g.points k) (record { stack = g.stack; node = k; inputs = []; done = false })

-- the point of k when the node i is done and gives x to these nodes
abbrev pub point_after : Graph → ℕ → Input → List ℕ → ℕ → Point
point_after g i x succs k = record {
  stack = g.stack;
  node = k;
  inputs = cond (is_among k succs) (gathered x (point_at g k).inputs) (point_at g k).inputs;
  done = (k == i) || (point_at g k).done;
}

-- the points that change: its own, and those of the nodes behind it
abbrev pub passed_points : Graph → ℕ → Input → List ℕ → List Point
passed_points g i x succs = map (point_after g i x succs) (i ∷ succs)

-- the graph with each of these points at its node
abbrev pub with_points : List Point → Graph → Graph
with_points [] g = g
with_points (p ∷ ps) g = with_points ps (with_point p g)

-- the graph then
abbrev pub passed : Graph → ℕ → Input → List ℕ → Graph
passed g i x succs = with_points (passed_points g i x succs) g

-- every node of the graph is done
abbrev pub AllDone : Graph → Type 0
AllDone g = (i : ℕ) (node : Node) → slice_get g.graph.nodes i ≡ Some node → IsDone g i
