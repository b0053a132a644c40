-- Where letters and jobs stand in the graph of their stack's newest traversal.
use Rattle.std.specs.Prelude.{IsSome, List, Some, ℕ, ◌≡◌, ◌≢◌}
use Rattle.heat_plan.specs.declared.phase.Act.{Act}
use Rattle.heat_plan.specs.declared.phase.Act.TheVariants.{Delete, Init}
use Rattle.heat_plan.specs.declared.phase.Status.TheVariants.{Complete, InProgress}
use Rattle.traversal_graph.specs.declared.shape.Node.{Node}
use Rattle.traversal_graph.specs.declared.shape.Node.TheVariants.{C, U}
use Rattle.row_table.specs.Rows.{row_at}
use Rattle.row_table.specs.declared.row.Row.{Row}
use Rattle.mail_table.specs.Mails.{job_at, letter_at}
use Rattle.mail_table.specs.declared.mail.Job.{Job}
use Rattle.mail_table.specs.declared.mail.Letter.{Letter}
use Rattle.mail_table.specs.declared.mail.Stage.{Stage}
use Rattle.mail_table.specs.declared.mail.Stage.TheVariants.{Asking, Ending, Polling}
use Rattle.core_state.specs.Reads.{IsDone, IsReady}
use Rattle.core_state.specs.State.{StateData, graph_at, stack_at}
use Rattle.core_state.specs.declared.graph.Graph.{Graph}
use Rattle.core_state.specs.declared.stack.Stack.{Stack}
use Rattle.step_relation.specs.Freshness.{Names}
use Rattle.step_relation.specs.Targets.{IsTarget}
use Rattle.step_relation.specs.GraphFits.{GraphFits, graph_of}
use Rattle.step_relation.specs.RowsFit.{IsWanted, RowFits, RowsFit}

-- the letter's stack isn't in the table or has another traversal
abbrev pub IsStale : List Stack → Letter → Type 0
IsStale stacks l = (st : Stack) → stack_at stacks l.stack ≡ Some st → st.trav ≢ l.trav

-- it is of its stack's newest traversal
pub record IsNewest (s : StateData) (l : Letter) (st : Stack) : Type 0 where
  pub in_table : stack_at s.stacks l.stack ≡ Some st
  pub newest : st.trav ≡ l.trav

-- a job that asks or polls
pub data IsUnderWay : Stage → Type 0 where
  asks : IsUnderWay Asking
  polls : IsUnderWay Polling

-- has a row that is under way for its letter's traversal, stale or not
pub record HasUnderWay (s : StateData) (j : Job) : Type 0 where
  pub row : Row
  pub found : row_at s.rows j.row ≡ Some row
  pub status : row.status ≡ InProgress
  pub newest : row.trav ≡ j.letter.trav

-- a row at this act is worked at by a node of this sort
pub data SuitsAct : Act → Node → Type 0 where
  updates : (act : Act) (name : List ℕ) (n : ℕ) → act ≢ Delete → SuitsAct act (U name n)
  cleans : (n : ℕ) → SuitsAct Delete (C n)

-- the row of a job that is to end, for an update node
pub record HasMade (s : StateData) (j : Job) : Type 0 where
  pub row : Row
  pub found : row_at s.rows j.row ≡ Some row
  pub status : row.status ≡ Complete
  pub begun : row.act ≢ Init
  pub newest : row.trav ≡ j.letter.trav

-- a job that isn't stale: its node, and its row by its stage
pub record JobFits (s : StateData) (j : Job) (st : Stack) (g : Graph) (node : Node) : Type 0 where
  pub ready : IsReady g j.letter.node
  pub undone : ¬ IsDone g j.letter.node
  pub target : IsTarget s.rows st.name node j.row
  pub suits : (r : Row) → IsUnderWay j.stage → row_at s.rows j.row ≡ Some r → SuitsAct r.act node
  pub ends_update : (name : List ℕ) (n : ℕ) → node ≡ U name n → j.stage ≡ Ending → HasMade s j
  pub ends_cleanup : (n : ℕ) (r : Row) → node ≡ C n → j.stage ≡ Ending → row_at s.rows j.row ≡ Some r → IsWanted st r

-- its node stands in the graph
pub record JobStands (s : StateData) (j : Job) (st : Stack) : Type 0 where
  pub graph : Graph
  pub node : Node
  pub names : Names s j.letter st graph node
  pub fits : JobFits s j st graph node

-- each job under way has its row so, and each job of a newest traversal stands at a node of its graph
pub record JobsFit (s : StateData) : Type 0 where
  pub under_way : (e : ℕ) (j : Job) → job_at s.jobs e ≡ Some j → IsUnderWay j.stage → HasUnderWay s j
  pub newest : (e : ℕ) (j : Job) (st : Stack) → job_at s.jobs e ≡ Some j → IsNewest s j.letter st → JobStands s j st

-- a letter that isn't stale names a ready node
pub record LetterStands (s : StateData) (l : Letter) (st : Stack) : Type 0 where
  pub graph : Graph
  pub node : Node
  pub names : Names s l st graph node
  pub ready : IsReady graph l.node

-- each letter to a newest traversal names a ready node of its graph
pub record LettersFit (s : StateData) : Type 0 where
  pub newest : (n : ℕ) (l : Letter) (st : Stack) → letter_at s.letters n ≡ Some l → IsNewest s l st
      → LetterStands s l st

-- each graph is that of a stack in the table
abbrev pub GraphsStand : StateData → Type 0
GraphsStand s = (name : List ℕ) (g : Graph) → graph_at s.graphs name ≡ Some g → IsSome (stack_at s.stacks name)

-- graphs and rows of every stack, jobs and letters
pub record Shape (s : StateData) : Type 0 where
  pub stand : GraphsStand s
  pub graphs : (name : List ℕ) (st : Stack) → stack_at s.stacks name ≡ Some st → GraphFits s st (graph_of s name)
  pub rows : (name : List ℕ) (st : Stack) → stack_at s.stacks name ≡ Some st → RowsFit s st (graph_of s name)
  pub each_row : (n : ℕ) (r : Row) → row_at s.rows n ≡ Some r → RowFits r
  pub jobs : JobsFit s
  pub letters : LettersFit s
