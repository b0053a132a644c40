-- Where a change applies.
use Rattle.std.specs.Prelude.{◌≡◌, ◌<◌, ◌≤◌, ℕ, List, [], ◌∷◌, Some, None, IsSome, All, Contains, length}
use Rattle.traversal_graph.specs.declared.shape.TravGraph.{TravGraph}
use Rattle.row_table.specs.Rows.{row_at}
use Rattle.sync_points.specs.declared.point.Point.{Point}
use Rattle.mail_table.specs.Mails.{letter_at, job_at}
use Rattle.core_state.specs.declared.graph.Graph.{Graph}
use Rattle.core_state.specs.declared.numbers.Numbers.{Numbers as NextNumbers}
use Rattle.core_state.specs.declared.change.Change.{Change}
use Rattle.core_state.specs.declared.change.Change.TheVariants as change
use Rattle.core_state.specs.State.{StateData, stack_at, graph_at}
use Rattle.core_state.specs.Changes.{apply}

-- each edge goes from a place of the graph's nodes to a place of them
abbrev pub IsWithin : TravGraph → Type 0
IsWithin g = All (λ ((before, after) : ℕ × ℕ). (before < length g.nodes) × (after < length g.nodes)) g.edges

-- the point's node is in its stack's graph
pub record HasNode (s : StateData) (p : Point) : Type 0 where
  pub graph : Graph
  pub its_graph : graph_at s.graphs p.stack ≡ Some graph
  pub within : p.node < length graph.graph.nodes

-- no next number is lower than it was
pub record NoneFalls (old new : NextNumbers) : Type 0 where
  pub stack : old.stack ≤ new.stack
  pub trav : old.trav ≤ new.trav
  pub row : old.row ≤ new.row
  pub engine : old.engine ≤ new.engine
  pub letter : old.letter ≤ new.letter

-- the change may be made to the state
abbrev pub Applies : StateData → Change → Type 0
Applies s (change.PutStack st) = Unit {0}
Applies s (change.DropStack name) = IsSome (stack_at s.stacks name)
Applies s (change.PutRow r) = Unit {0}
Applies s (change.DropRow n) = IsSome (row_at s.rows n)
Applies s (change.PutGraph name g) = IsSome (stack_at s.stacks name) × IsWithin g
Applies s (change.PutPoint p) = HasNode s p
Applies s (change.Send l) = letter_at s.letters l.no ≡ None
Applies s (change.Drop n) = IsSome (letter_at s.letters n)
Applies s (change.PutJob j) = Unit {0}
Applies s (change.EndJob e) = IsSome (job_at s.jobs e)
Applies s (change.Enlist e) = ¬ Contains s.live e
Applies s (change.Stop e) = Contains s.live e
Applies s (change.Numbers next) = NoneFalls s.next next
Applies s (change.PutPast p) = IsSome (stack_at s.stacks p.stack)
Applies s (change.Release t) = ¬ Contains s.released t

-- each change may be made to the state that those before it left
abbrev pub AllApply : List Change → StateData → Type 0
AllApply [] s = Unit {0}
AllApply (c ∷ cs) s = Applies s c × AllApply cs (apply c s)
