-- Every number that stands anywhere is below the next one of its sort, and no engine is live twice.
use Rattle.std.specs.Prelude.{AllPairs, Contains, IsSome, List, Option, Some, slice_get, ℕ, ◌<◌, ◌≡◌, ◌≢◌}
use Rattle.traversal_graph.specs.declared.shape.Node.{Node}
use Rattle.traversal_graph.specs.declared.shape.Node.TheVariants.{C, U}
use Rattle.row_table.specs.Rows.{row_at}
use Rattle.row_table.specs.declared.row.Row.{Row}
use Rattle.sync_points.specs.declared.point.Input.{Input}
use Rattle.sync_points.specs.declared.point.Point.{Point}
use Rattle.mail_table.specs.Mails.{job_at, letter_at}
use Rattle.mail_table.specs.declared.mail.Job.{Job}
use Rattle.mail_table.specs.declared.mail.Letter.{Letter}
use Rattle.core_state.specs.State.{StateData, graph_at, stack_at}
use Rattle.core_state.specs.declared.graph.Graph.{Graph}
use Rattle.core_state.specs.declared.stack.Stack.{Stack}

-- each of the numbers is below the next one
abbrev pub AllBelow : ℕ → List ℕ → Type 0
AllBelow next numbers = (n : ℕ) → Contains numbers n → n < next

-- the number, if there is one, is below the next one
abbrev pub BelowIfThere : ℕ → Option ℕ → Type 0
BelowIfThere next number = (n : ℕ) → number ≡ Some n → n < next

-- no number stands twice
abbrev pub EachOnce : List ℕ → Type 0
EachOnce numbers = AllPairs (λ (a b : ℕ). a ≢ b) numbers

-- the stack's numbers are below the next ones
pub record StackBelow (stack trav : ℕ) (st : Stack) : Type 0 where
  pub no_ : st.no < stack
  pub newest : st.trav < trav

-- the numbers of the row, and all that it names, are below the next ones
pub record RowBelow (row trav engine : ℕ) (r : Row) : Type 0 where
  pub no_ : r.no < row
  pub newest : r.trav < trav
  pub required : AllBelow row r.requires_
  pub replaces : BelowIfThere row r.replaces
  pub replaced_by : BelowIfThere row r.replaced_by
  pub holder : BelowIfThere engine r.engine

-- the row that a node names
abbrev pub row_of : Node → ℕ
row_of (U name n) = n
row_of (C n) = n

-- the rows that the graph's nodes and inputs name are below the next number
pub record GraphBelow (row : ℕ) (g : Graph) : Type 0 where
  pub nodes : (i : ℕ) (node : Node) → slice_get g.graph.nodes i ≡ Some node → row_of node < row
  pub inputs : (i : ℕ) (p : Point) (x : Input) → slice_get g.points i ≡ Some p → Contains p.inputs x → x.row < row

-- the letter's numbers are below the next ones
pub record LetterBelow (letter trav : ℕ) (l : Letter) : Type 0 where
  pub no_ : l.no < letter
  pub newest : l.trav < trav

-- the numbers of the job, its row and its letter are below the next ones
pub record JobBelow (engine row letter trav : ℕ) (j : Job) : Type 0 where
  pub holder : j.engine < engine
  pub its_row : j.row < row
  pub its_letter : LetterBelow letter trav j.letter

-- every number in use is below the next of its sort, each row's stack stands, and no engine is live twice
pub record Numbered (s : StateData) : Type 0 where
  pub in_table : (n : ℕ) (r : Row) → row_at s.rows n ≡ Some r → IsSome (stack_at s.stacks r.stack)
  pub stacks : (name : List ℕ) (st : Stack) → stack_at s.stacks name ≡ Some st → StackBelow s.next.stack s.next.trav st
  pub rows : (n : ℕ) (r : Row) → row_at s.rows n ≡ Some r → RowBelow s.next.row s.next.trav s.next.engine r
  pub graphs : (name : List ℕ) (g : Graph) → graph_at s.graphs name ≡ Some g → GraphBelow s.next.row g
  pub letters : (n : ℕ) (l : Letter) → letter_at s.letters n ≡ Some l → LetterBelow s.next.letter s.next.trav l
  pub jobs : (e : ℕ) (j : Job) → job_at s.jobs e ≡ Some j
      → JobBelow s.next.engine s.next.row s.next.letter s.next.trav j
  pub live : AllBelow s.next.engine s.live
  pub once : EachOnce s.live
