-- What a journal's image has, and what may be kept of a state and of its changes.
use Rattle.std.specs.Prelude.{Contains, IsSome, List, Some, slice_get, ℕ, ◌<◌, ◌^◌, ◌≡◌, ◌≢◌, ◌≤◌}
use Rattle.heat_plan.specs.declared.phase.Act.TheVariants.{Rollback, Update}
use Rattle.heat_plan.specs.declared.phase.Status.TheVariants.{InProgress}
use Rattle.heat_plan.specs.declared.token.Token.{Token}
use Rattle.traversal_graph.specs.declared.shape.Node.{Node}
use Rattle.row_table.specs.Rows.{row_at}
use Rattle.row_table.specs.declared.row.Row.{Row}
use Rattle.sync_points.specs.declared.point.Point.{Point}
use Rattle.core_state.specs.Applies.{AllApply, IsWithin}
use Rattle.core_state.specs.Changes.{applied}
use Rattle.core_state.specs.State.{StateData, graph_at, stack_at}
use Rattle.core_state.specs.declared.change.Change.{Change}
use Rattle.core_state.specs.declared.change.Change.TheVariants.{PutRow}
use Rattle.core_state.specs.declared.graph.Graph.{Graph}
use Rattle.step_relation.specs.Linked.{Links}
use Rattle.step_relation.specs.Opening.{bare}
use Rattle.step_relation.specs.Rows.{token_of}

-- changes that may all be made made it of the empty state
pub record IsMade (s : StateData) : Type 0 where
  pub written : List Change
  pub applies : AllApply written bare
  pub replayed : s ≡ applied written bare

-- each next number is at most 2^62, and each row's key is below it
pub record IsInRange (s : StateData) : Type 0 where
  pub stack : s.next.stack ≤ 2 ^ 62
  pub trav : s.next.trav ≤ 2 ^ 62
  pub row : s.next.row ≤ 2 ^ 62
  pub engine : s.next.engine ≤ 2 ^ 62
  pub letter : s.next.letter ≤ 2 ^ 62
  pub keys : (n : ℕ) (r : Row) → row_at s.rows n ≡ Some r → r.key < 2 ^ 62

-- each node has its point, and each edge goes from a node to a node
pub record IsWhole (g : Graph) : Type 0 where
  pub points : (i : ℕ) (node : Node) → slice_get g.graph.nodes i ≡ Some node
      → (p : Point) × (slice_get g.points i ≡ Some p)
  pub ends : IsWithin g.graph

-- so is the graph of each stack
abbrev pub AreWhole : StateData → Type 0
AreWhole s = (name : List ℕ) (g : Graph) → IsSome (stack_at s.stacks name) → graph_at s.graphs name ≡ Some g
    → IsWhole g

-- what any image has: whole graphs, and no row whose act is a rollback
pub record IsRead (s : StateData) : Type 0 where
  pub graphs : AreWhole s
  pub acts : (n : ℕ) (r : Row) → row_at s.rows n ≡ Some r → r.act ≢ Rollback

-- what is asked of the image alone
pub record IsTied (s : StateData) : Type 0 where
  pub links : Links s
  pub targets : (n : ℕ) (r : Row) → row_at s.rows n ≡ Some r → r.act ≡ Update → r.status ≡ InProgress → IsSome r.target
  pub released : (t : Token) (r : Row) → Contains s.released t → row_at s.rows t.row ≡ Some r → token_of r ≢ t
  pub below : (t : Token) → Contains s.released t → t.row < s.next.row

-- a row that a record may hold
pub record IsKeepable (r : Row) : Type 0 where
  pub key : r.key < 2 ^ 62
  pub act : r.act ≢ Rollback

-- changes that a record may hold: all else that it asks of them their types keep
abbrev pub AreKeepable : List Change → Type 0
AreKeepable cs = (r : Row) → Contains cs (PutRow r) → IsKeepable r

-- a state whose every row a record may hold
abbrev pub HasKeepableRows : StateData → Type 0
HasKeepableRows s = (n : ℕ) (r : Row) → row_at s.rows n ≡ Some r → IsKeepable r
