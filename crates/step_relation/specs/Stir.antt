-- Something in a stack's graph is still on its way, and no node is forgotten.
use Rattle.std.specs.Prelude.{List, Some, ℕ, ◌≡◌}
use Rattle.heat_plan.specs.declared.phase.Status.TheVariants.{InProgress}
use Rattle.traversal_graph.specs.declared.shape.Node.{Node}
use Rattle.mail_table.specs.Mails.{job_at, letter_at}
use Rattle.mail_table.specs.declared.mail.Job.{Job}
use Rattle.mail_table.specs.declared.mail.Letter.{Letter}
use Rattle.core_state.specs.State.{StateData, graph_at, stack_at}
use Rattle.core_state.specs.declared.graph.Graph.{Graph}
use Rattle.core_state.specs.declared.stack.Stack.{Stack}
use Rattle.step_relation.specs.Resends.{IsOpen}
use Rattle.step_relation.specs.Targets.{IsTarget}
use Rattle.step_relation.specs.GraphFits.{IsNode}
use Rattle.step_relation.specs.MailFits.{IsStale}

-- the letter is one of the traversal, to that node
pub record IsTo (st : Stack) (node : ℕ) (l : Letter) : Type 0 where
  pub stack : l.stack ≡ st.name
  pub newest : l.trav ≡ st.trav
  pub node_is : l.node ≡ node

-- a letter waits for the node, an engine has it, or an engine still has its row from an earlier traversal
pub data IsCovered (s : StateData) (st : Stack) (i : ℕ) (node : Node) : Type 0 where
  waits : (n : ℕ) (l : Letter) → letter_at s.letters n ≡ Some l → IsTo st i l → IsCovered s st i node
  works : (e : ℕ) (j : Job) → job_at s.jobs e ≡ Some j → IsTo st i j.letter → IsCovered s st i node
  lasts : (e : ℕ) (j : Job) → job_at s.jobs e ≡ Some j → IsStale s.stacks j.letter → j.letter.stack ≡ st.name
      → IsTarget s.rows st.name node j.row → IsCovered s st i node

-- a node that is ready and not done is covered
pub record Stir (s : StateData) (st : Stack) : Type 0 where
  pub graph : Graph
  pub i : ℕ
  pub node : Node
  pub its_graph : graph_at s.graphs st.name ≡ Some graph
  pub its_node : IsNode graph i node
  pub open_ : IsOpen graph i
  pub covered : IsCovered s st i node

-- each stack without a mark still stirs
abbrev pub EachStirs : StateData → Type 0
EachStirs s = (name : List ℕ) (st : Stack) → stack_at s.stacks name ≡ Some st → st.status ≡ InProgress → Stir s st

-- in a traversal without a mark each node that is ready and not done is covered
pub record Covered (s : StateData) : Type 0 where
  pub each : (name : List ℕ) (st : Stack) (g : Graph) (i : ℕ) (node : Node) → stack_at s.stacks name ≡ Some st
      → st.status ≡ InProgress → graph_at s.graphs name ≡ Some g → IsNode g i node → IsOpen g i → IsCovered s st i node
