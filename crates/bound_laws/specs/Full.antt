-- The work that is left as the state alone gives it, and what bounds it.
use Rattle.std.specs.Prelude.{List, Some, slice_get, ℕ, ◌*◌, ◌+◌, ◌≡◌, ◌≤◌}
use Rattle.heat_plan.specs.declared.token.Token.{Token}
use Rattle.traversal_graph.specs.declared.shape.Node.{Node}
use Rattle.traversal_graph.specs.declared.shape.Node.TheVariants.{U}
use Rattle.row_table.specs.Rows.{row_at}
use Rattle.row_table.specs.declared.row.Row.{Row}
use Rattle.mail_table.specs.Mails.{job_at}
use Rattle.mail_table.specs.declared.mail.Job.{Job}
use Rattle.mail_table.specs.declared.mail.Stage.TheVariants.{Asking, Ending, Polling, Taken}
use Rattle.core_state.specs.State.{StateData, graph_at, stack_at}
use Rattle.core_state.specs.declared.graph.Graph.{Graph}
use Rattle.core_state.specs.declared.stack.Stack.{Stack}
use Rattle.bound_laws.specs.Bound.{IsWork, RollWork}
use Rattle.bound_laws.specs.Counts.{Counts}
use Rattle.bound_laws.specs.Rolls.{RollItem}
use Rattle.bound_laws.specs.Work.{IsAt, IsLate, IsLeft, IsLetter, IsUnready}

-- the work that is left, where each job that polls stands for 66
pub record IsFullWork (s : StateData) (n : ℕ) : Type 0 where
  pub letters : ℕ
  pub nodes : ℕ
  pub stopped : ℕ
  pub taken : ℕ
  pub asking : ℕ
  pub polling : ℕ
  pub ending : ℕ
  pub late : ℕ
  pub rolls : ℕ
  pub letters_are : Counts (IsLetter s) letters
  pub nodes_are : Counts (IsUnready s) nodes
  pub stopped_are : Counts (IsLeft s) stopped
  pub taken_are : Counts (IsAt Taken s) taken
  pub asking_are : Counts (IsAt Asking s) asking
  pub polling_are : Counts (IsAt Polling s) polling
  pub ending_are : Counts (IsAt Ending s) ending
  pub late_are : Counts (IsLate s) late
  pub rolls_are : RollWork s rolls
  pub sum : n ≡ 69 * letters + 69 * nodes + 70 * stopped + 68 * taken + 67 * asking + 66 * polling + ending + 69 * late
      + 69 * rolls

-- it can be told
abbrev pub FullWorkExists : Type 0
FullWorkExists = (s : StateData) → (n : ℕ) × IsFullWork s n

-- and the finer form is never more, whatever the polls left, at most 64 for each token
abbrev pub WorkIsLess : Type 0
WorkIsLess = (left : Token → ℕ) (s : StateData) (n m : ℕ) → ((t : Token) → left t ≤ 64) → IsWork left s n
    → IsFullWork s m → n ≤ m

-- a node of a stack's graph, by the stack's name and its place
pub record IsNode (s : StateData) (x : List ℕ × ℕ) : Type 0 where
  pub stack : Stack
  pub graph : Graph
  pub node : Node
  pub in_table : stack_at s.stacks x.0 ≡ Some stack
  pub its_graph : graph_at s.graphs x.0 ≡ Some graph
  pub its_node : slice_get graph.graph.nodes x.1 ≡ Some node

-- an update node of one
pub record IsUpdate (s : StateData) (x : List ℕ × ℕ) : Type 0 where
  pub stack : Stack
  pub graph : Graph
  pub name : List ℕ
  pub chosen : ℕ
  pub in_table : stack_at s.stacks x.0 ≡ Some stack
  pub its_graph : graph_at s.graphs x.0 ≡ Some graph
  pub its_node : slice_get graph.graph.nodes x.1 ≡ Some (U name chosen)

pub record IsJob (s : StateData) (e : ℕ) : Type 0 where
  pub job : Job
  pub its : job_at s.jobs e ≡ Some job

pub record IsRow (s : StateData) (n : ℕ) : Type 0 where
  pub row : Row
  pub found : row_at s.rows n ≡ Some row

-- how many there are of what the work is bounded by
pub record Sizes (s : StateData) : Type 0 where
  pub letters : ℕ
  pub nodes : ℕ
  pub jobs : ℕ
  pub rows : ℕ
  pub updates : ℕ
  pub items : ℕ
  pub letters_are : Counts (IsLetter s) letters
  pub nodes_are : Counts (IsNode s) nodes
  pub jobs_are : Counts (IsJob s) jobs
  pub rows_are : Counts (IsRow s) rows
  pub updates_are : Counts (IsUpdate s) updates
  pub items_are : Counts (RollItem s) items

-- it is at most 138 for each letter and node, 206 for each job, and 69 for each row, update node, and item that is gone
-- back to
abbrev pub WorkIsBounded : Type 0
WorkIsBounded = (s : StateData) (n : ℕ) (z : Sizes s) → IsFullWork s n
    → n ≤ 138 * (z.letters + z.nodes) + 206 * z.jobs + 69 * (z.rows + z.updates + z.items)
