-- The parts of the work that a letter or a job still has.
use Rattle.std.specs.Prelude.{Option, ℕ, ◌≡◌}
use Rattle.traversal_graph.specs.declared.shape.Node.{Node}
use Rattle.row_table.specs.Rows.{row_at}
use Rattle.row_table.specs.declared.row.Row.{Row}
use Rattle.mail_table.specs.declared.mail.Letter.{Letter}
use Rattle.core_state.specs.State.{StateData}
use Rattle.core_state.specs.declared.graph.Graph.{Graph}
use Rattle.core_state.specs.declared.stack.Stack.{Stack}
use Rattle.step_relation.specs.Freshness.{IsFresh, IsMeant, Names, Serves}
use Rattle.step_relation.specs.Targets.{IsTarget}

-- the letter still has work at the row of this number, and these are its parts
pub record IsFreshOf (s : StateData) (l : Letter) (number : ℕ) (stack : Stack) (graph : Graph) (node : Node)
    (row : Option Row) : Type 0 where
  pub names : Names s l stack graph node
  pub found : row_at s.rows number ≡ row
  pub serves : Serves stack node row

-- the same in one word
abbrev pub fresh_of : (s : StateData) (l : Letter) (number : ℕ) (stack : Stack) (graph : Graph) (node : Node)
    (row : Option Row)
    → IsFreshOf s l number stack graph node row → IsFresh s l number
fresh_of s l number stack graph node row of = record {
  stack = stack;
  graph = graph;
  node = node;
  row = row;
  names = of.names;
  found = of.found;
  serves = of.serves;
}

-- the letter has work at its node's target, and these are its parts
pub record IsMeantOf (s : StateData) (l : Letter) (target : ℕ) (stack : Stack) (graph : Graph) (node : Node)
    (row : Option Row) : Type 0 where
  pub fresh : IsFreshOf s l target stack graph node row
  pub to : IsTarget s.rows l.stack node target

-- the same in one word
abbrev pub meant_of : (s : StateData) (l : Letter) (target : ℕ) (stack : Stack) (graph : Graph) (node : Node)
    (row : Option Row)
    → IsMeantOf s l target stack graph node row → IsMeant s l
meant_of s l target stack graph node row of = record {
  target = target;
  fresh = fresh_of s l target stack graph node row of.fresh;
  to = of.to;
}

-- the letter names nothing in its stack's newest traversal
abbrev pub NamesNothing : StateData → Letter → Type 0
NamesNothing s l = (stack : Stack) (graph : Graph) (node : Node) → ¬ Names s l stack graph node
