-- Rows, the rows that replaced them, and the engines that have them.
use Rattle.std.specs.Prelude.{List, Some, slice_get, ℕ, ◌<◌, ◌≡◌, ◌≤◌}
use Rattle.traversal_graph.specs.declared.shape.Node.{Node}
use Rattle.row_table.specs.Chains.{IsCurrent}
use Rattle.row_table.specs.Rows.{row_at}
use Rattle.row_table.specs.declared.row.Row.{Row}
use Rattle.mail_table.specs.Mails.{job_at}
use Rattle.mail_table.specs.declared.mail.Job.{Job}
use Rattle.core_state.specs.State.{StateData, graph_at}
use Rattle.core_state.specs.declared.graph.Graph.{Graph}
use Rattle.step_relation.specs.Numbered.{Numbered, row_of}

-- no row of a stack and name has a greater number than the current one, so that at most one is current
pub record OneCurrent (rows : List Row) : Type 0 where
  pub newest : (n m : ℕ) (a b : Row) → row_at rows n ≡ Some a → row_at rows m ≡ Some b → a.stack ≡ b.stack
      → a.name ≡ b.name → IsCurrent a → m ≤ n

-- one row stands in place of another, of its stack and name
pub record IsReplacedBy (r q : Row) : Type 0 where
  pub replaced_by : r.replaced_by ≡ Some q.no
  pub replaces : q.replaces ≡ Some r.no
  pub stack : q.stack ≡ r.stack
  pub name : q.name ≡ r.name

-- replaced_by and replaces name each other
pub record Chained (rows : List Row) : Type 0 where
  pub rises : (n m : ℕ) (r : Row) → row_at rows n ≡ Some r → r.replaced_by ≡ Some m → n < m
  pub forth : (n m : ℕ) (r q : Row) → row_at rows n ≡ Some r → r.replaced_by ≡ Some m → row_at rows m ≡ Some q
      → IsReplacedBy r q
  pub back : (n m : ℕ) (r q : Row) → row_at rows n ≡ Some r → row_at rows m ≡ Some q → q.replaces ≡ Some n
      → IsReplacedBy r q

-- a row's engine is the one whose job has it, and two jobs never have one row
pub record Locked (rows : List Row) (jobs : List Job) : Type 0 where
  pub held : (n e : ℕ) (r : Row) → row_at rows n ≡ Some r → r.engine ≡ Some e
      → (j : Job) × (job_at jobs e ≡ Some j) × (j.row ≡ n)
  pub holds : (e : ℕ) (j : Job) (r : Row) → job_at jobs e ≡ Some j → row_at rows j.row ≡ Some r → r.engine ≡ Some e
  pub apart : (e f : ℕ) (j k : Job) → job_at jobs e ≡ Some j → job_at jobs f ≡ Some k → j.row ≡ k.row → e ≡ f

-- a row number is a stack's by a row, a node or a job
pub data IsOf (rows : List Row) (graphs : List Graph) (jobs : List Job) (n : ℕ) (stack : List ℕ) : Type 0 where
  by_row : (r : Row) → row_at rows n ≡ Some r → r.stack ≡ stack → IsOf rows graphs jobs n stack
  by_node : (g : Graph) (i : ℕ) (node : Node) → graph_at graphs stack ≡ Some g → slice_get g.graph.nodes i ≡ Some node
      → row_of node ≡ n → IsOf rows graphs jobs n stack
  by_job : (e : ℕ) (j : Job) → job_at jobs e ≡ Some j → j.row ≡ n → j.letter.stack ≡ stack
      → IsOf rows graphs jobs n stack

-- and at most one stack's
pub record Owned (rows : List Row) (graphs : List Graph) (jobs : List Job) : Type 0 where
  pub one : (n : ℕ) (a b : List ℕ) → IsOf rows graphs jobs n a → IsOf rows graphs jobs n b → a ≡ b

-- numbers below the next, one current row of a name, chains of rows, locks, and whose a row is
pub record Links (s : StateData) : Type 0 where
  pub numbered : Numbered s
  pub current : OneCurrent s.rows
  pub chained : Chained s.rows
  pub locked : Locked s.rows s.jobs
  pub owned : Owned s.rows s.graphs s.jobs
