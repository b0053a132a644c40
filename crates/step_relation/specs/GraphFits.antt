-- A stack's graph is that of its plan and its rows.
use Rattle.std.specs.Prelude.{AllPairs, Contains, List, None, Option, Some, [], length, slice_get, ℕ, ◌<◌, ◌≡◌, ◌≢◌}
use Rattle.std.specs.Prelude.{◌⊎◌}
use Rattle.heat_plan.specs.Plans.{names_of}
use Rattle.heat_plan.specs.declared.item.Item.{Item}
use Rattle.heat_plan.specs.declared.phase.Act.TheVariants.{Delete, Init}
use Rattle.dep_graph.specs.Paths.{IsAcyclic}
use Rattle.traversal_graph.specs.Builds.{Joins}
use Rattle.traversal_graph.specs.declared.shape.Node.{Node}
use Rattle.traversal_graph.specs.declared.shape.Node.TheVariants.{C, U}
use Rattle.row_table.specs.Rows.{row_at}
use Rattle.row_table.specs.declared.row.Row.{Row}
use Rattle.sync_points.specs.declared.point.Input.{Input}
use Rattle.sync_points.specs.declared.point.Point.{Point}
use Rattle.core_state.specs.Reads.{HasInput, IsDone, IsReady, item_at}
use Rattle.core_state.specs.State.{StateData, graph_at}
use Rattle.core_state.specs.declared.graph.Graph.{Graph}
use Rattle.core_state.specs.declared.stack.Stack.{Stack}
use Rattle.step_relation.specs.Freshness.{plan_of}
use Rattle.step_relation.specs.Targets.{IsCurrentOf, IsTarget}

-- the graph of a stack; the empty one where none was put
abbrev pub graph_or : List ℕ → Option Graph → Graph
graph_or name (Some g) = g
graph_or name None = record { stack = name; graph = record { nodes = []; edges = [] }; points = [] }

-- the graph of the stack of this name in the state
abbrev pub graph_of : StateData → List ℕ → Graph
graph_of s name = graph_or name (graph_at s.graphs name)

-- the node at a place
abbrev pub IsNode : Graph → ℕ → Node → Type 0
IsNode g i node = slice_get g.graph.nodes i ≡ Some node

-- the update node of a name, at a place, has this row as its target
pub record Aims (s : StateData) (st : Stack) (g : Graph) (i : ℕ) (name : List ℕ) (r : Row) : Type 0 where
  pub chosen : ℕ
  pub node : IsNode g i (U name chosen)
  pub to : IsTarget s.rows st.name (U name chosen) r.no
  pub found : row_at s.rows r.no ≡ Some r

-- the clean-up node at a place has this row, which stands
pub record Sweeps (s : StateData) (g : Graph) (i : ℕ) (r : Row) : Type 0 where
  pub node : IsNode g i (C r.no)
  pub found : row_at s.rows r.no ≡ Some r

-- the point of a node
pub record HasPoint (g : Graph) (st : Stack) (i : ℕ) : Type 0 where
  pub point : Point
  pub there : slice_get g.points i ≡ Some point
  pub stack : point.stack ≡ st.name
  pub node : point.node ≡ i

-- the nodes: one for each item, and for rows
pub record NodesFit (st : Stack) (g : Graph) : Type 0 where
  pub named : g.stack ≡ st.name
  pub acyclic : IsAcyclic (Joins g.graph.edges)
  pub items : (item : Item) → Contains (plan_of st.plan).items item → (i : ℕ) × (n : ℕ) × IsNode g i (U item.name n)
  pub only_items : (i n : ℕ) (name : List ℕ) → IsNode g i (U name n) → Contains (names_of (plan_of st.plan).items) name
  pub one_update : (i k n m : ℕ) (name : List ℕ) → IsNode g i (U name n) → IsNode g k (U name m) → i ≡ k
  pub one_cleanup : (i k n : ℕ) → IsNode g i (C n) → IsNode g k (C n) → i ≡ k
  pub points : (i : ℕ) (node : Node) → IsNode g i node → HasPoint g st i
  pub ends : (i k : ℕ) → Joins g.graph.edges i k → (i < length g.graph.nodes) × (k < length g.graph.nodes)

-- an item of the plan under this name that needs that name
pub record Needs (st : Stack) (name need : List ℕ) : Type 0 where
  pub item : Item
  pub asked : item_at (plan_of st.plan).items name ≡ Some item
  pub among : Contains item.needs need

-- the edges: into an update node from what its item needs, and to a clean-up node from its row's name
pub record EdgesFit (s : StateData) (st : Stack) (g : Graph) : Type 0 where
  pub needed : (i k n m : ℕ) (name need : List ℕ) → IsNode g k (U name n) → IsNode g i (U need m) → Needs st name need
      → Joins g.graph.edges i k
  pub needs : (i k n : ℕ) (name : List ℕ) → IsNode g k (U name n) → Joins g.graph.edges i k
      → (need : List ℕ) × (m : ℕ) × IsNode g i (U need m) × Needs st name need
  pub behind : (i k n : ℕ) (r : Row) → IsNode g i (U r.name n) → Sweeps s g k r → Joins g.graph.edges i k

-- a target is its name's current row; where the chosen row stands it is this one, or took its place in this traversal
pub record TargetFits (s : StateData) (st : Stack) (name : List ℕ) (chosen : ℕ) (r : Row) : Type 0 where
  pub to : IsTarget s.rows st.name (U name chosen) r.no
  pub is : IsCurrentOf s.rows st.name name r
  pub from : (q : Row) → row_at s.rows chosen ≡ Some q
      → (chosen ≡ r.no) ⊎ ((q.replaced_by ≡ Some r.no) × (r.trav ≡ st.trav))
  pub kept : r.act ≢ Delete

-- the rows: each target is current, and each row has a node
pub record TargetsFit (s : StateData) (st : Stack) (g : Graph) : Type 0 where
  pub updates : (i n : ℕ) (name : List ℕ) → IsNode g i (U name n) → (r : Row) × TargetFits s st name n r
  pub cleanups : (i : ℕ) (r : Row) → Sweeps s g i r → r.stack ≡ st.name
  pub rows : (n : ℕ) (r : Row) → row_at s.rows n ≡ Some r → r.stack ≡ st.name
      → ((i : ℕ) × Aims s st g i r.name r) ⊎ ((i : ℕ) × IsNode g i (C n))
  pub old : (n : ℕ) (r : Row) → row_at s.rows n ≡ Some r → r.stack ≡ st.name → r.trav ≢ st.trav → r.act ≢ Init
      → (i : ℕ) × IsNode g i (C n)

-- the input that a done node gives: its name, its target and that row's facts, or a row alone
pub data IsInput (s : StateData) (st : Stack) (g : Graph) (x : Input) : Type 0 where
  of_u : (name : List ℕ) (r : Row) → Aims s st g x.from name r → x.name ≡ Some name → x.row ≡ r.no → x.facts ≡ r.facts
      → IsInput s st g x
  of_c : (n : ℕ) → IsNode g x.from (C n) → x.name ≡ None → x.row ≡ n → x.facts ≡ None → IsInput s st g x

-- an input stands on an edge from a done node, and is that node's
pub record Stands (s : StateData) (st : Stack) (g : Graph) (i : ℕ) (x : Input) : Type 0 where
  pub edge : Joins g.graph.edges x.from i
  pub done : IsDone g x.from
  pub its : IsInput s st g x

-- the inputs: exactly those of done nodes, each once
pub record InputsFit (s : StateData) (st : Stack) (g : Graph) : Type 0 where
  pub ready : (i : ℕ) → IsDone g i → IsReady g i
  pub stand : (i : ℕ) (p : Point) (x : Input) → slice_get g.points i ≡ Some p → Contains p.inputs x → Stands s st g i x
  pub given : (i a : ℕ) → Joins g.graph.edges a i → IsDone g a → HasInput g i a
  pub once : (i : ℕ) (p : Point) → slice_get g.points i ≡ Some p
      → AllPairs (λ (x y : Input). x.from ≢ y.from) p.inputs

-- the graph's nodes, edges, targets and inputs fit the state
pub record GraphFits (s : StateData) (st : Stack) (g : Graph) : Type 0 where
  pub nodes : NodesFit st g
  pub edges : EdgesFit s st g
  pub targets : TargetsFit s st g
  pub inputs : InputsFit s st g
