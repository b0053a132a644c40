-- The work in parts, a table after the other.
use Rattle.std.specs.Prelude.{List, Some, length, ℕ, ◌*◌, ◌+◌, ◌<◌, ◌≡◌, ◌≢◌, ◌⊎◌}
use Rattle.heat_plan.specs.declared.phase.Act.TheVariants.{Init}
use Rattle.traversal_graph.specs.declared.shape.Node.{Node}
use Rattle.traversal_graph.specs.declared.shape.Node.TheVariants.{U}
use Rattle.row_table.specs.Rows.{row_at}
use Rattle.row_table.specs.declared.row.Row.{Row}
use Rattle.mail_table.specs.declared.mail.Stage.{Stage}
use Rattle.mail_table.specs.declared.mail.Stage.TheVariants.{Asking, Ending, Polling, Taken}
use Rattle.core_state.specs.Reads.{IsDone, IsReady}
use Rattle.core_state.specs.State.{StateData}
use Rattle.core_state.specs.declared.graph.Graph.{Graph}
use Rattle.core_state.specs.declared.stack.Stack.{Stack}
use Rattle.step_relation.specs.Targets.{IsTarget}
use Rattle.bound_laws.specs.Counts.{Counts}
use Rattle.bound_laws.specs.Rolls.{RollFar, RollItem, RollJob, RollLetter, RollNode, RollRow}
use Rattle.bound_laws.specs.Work.{IsAt, IsLate, IsLeft, IsLetter, IsUnready}

-- one where it holds, none where it doesn't
pub data IsOne (P : Type 0) (n : ℕ) : Type 0 where
  one : P → n ≡ 1 → IsOne P n
  none : ¬ P → n ≡ 0 → IsOne P n

-- that of the letters
pub record LettersWork (s : StateData) (n : ℕ) : Type 0 where
  pub letters : ℕ
  pub rolls : ℕ
  pub letters_are : Counts (IsLetter s) letters
  pub rolls_are : Counts (RollLetter s) rolls
  pub sum : n ≡ 69 * letters + 69 * rolls

-- that of a stage
abbrev pub stage_work : Stage → ℕ
stage_work Taken = 68
stage_work Asking = 67
stage_work Polling = 66
stage_work Ending = 1

-- that of an engine's job
pub record JobWork (s : StateData) (e n : ℕ) : Type 0 where
  pub stopped : ℕ
  pub taken : ℕ
  pub asking : ℕ
  pub polling : ℕ
  pub ending : ℕ
  pub late : ℕ
  pub rolls : ℕ
  pub stopped_is : IsOne (IsLeft s e) stopped
  pub taken_is : IsOne (IsAt Taken s e) taken
  pub asking_is : IsOne (IsAt Asking s e) asking
  pub polling_is : IsOne (IsAt Polling s e) polling
  pub ending_is : IsOne (IsAt Ending s e) ending
  pub late_is : IsOne (IsLate s e) late
  pub rolls_is : IsOne (RollJob s e) rolls
  pub sum : n ≡ 70 * stopped + 68 * taken + 67 * asking + 66 * polling + ending + 69 * late + 69 * rolls

-- that of the jobs
pub record JobsWork (s : StateData) (n : ℕ) : Type 0 where
  pub stopped : ℕ
  pub taken : ℕ
  pub asking : ℕ
  pub polling : ℕ
  pub ending : ℕ
  pub late : ℕ
  pub rolls : ℕ
  pub stopped_are : Counts (IsLeft s) stopped
  pub taken_are : Counts (IsAt Taken s) taken
  pub asking_are : Counts (IsAt Asking s) asking
  pub polling_are : Counts (IsAt Polling s) polling
  pub ending_are : Counts (IsAt Ending s) ending
  pub late_are : Counts (IsLate s) late
  pub rolls_are : Counts (RollJob s) rolls
  pub sum : n ≡ 70 * stopped + 68 * taken + 67 * asking + 66 * polling + ending + 69 * late + 69 * rolls

-- that of the rows
pub record RowsWork (s : StateData) (n : ℕ) : Type 0 where
  pub rolls : ℕ
  pub rolls_are : Counts (RollRow s) rolls
  pub sum : n ≡ 69 * rolls

-- a node of the graph that is neither ready nor done
pub record IsUnreadyIn (g : Graph) (i : ℕ) : Type 0 where
  pub within : i < length g.graph.nodes
  pub unready : ¬ IsReady g i
  pub undone : ¬ IsDone g i

-- a row that stands, at INIT or of another traversal than the stack's newest
pub record HasFarRow (s : StateData) (st : Stack) (n : ℕ) : Type 0 where
  pub row : Row
  pub found : row_at s.rows n ≡ Some row
  pub far : (row.act ≡ Init) ⊎ (row.trav ≢ st.trav)

-- an update node of the stack whose target is such a row
pub record IsFarNode (s : StateData) (st : Stack) (node : Node) : Type 0 where
  pub name : List ℕ
  pub chosen : ℕ
  pub target : ℕ
  pub update : node ≡ U name chosen
  pub to : IsTarget s.rows st.name node target
  pub has : HasFarRow s st target

-- that of a stack
pub record StackWork (s : StateData) (name : List ℕ) (n : ℕ) : Type 0 where
  pub nodes : ℕ
  pub rolls : ℕ
  pub items : ℕ
  pub far : ℕ
  pub nodes_are : Counts (λ (i : ℕ). IsUnready s (name, i)) nodes
  pub rolls_are : Counts (λ (i : ℕ). RollNode s (name, i)) rolls
  pub items_are : Counts (λ (i : ℕ). RollItem s (name, i)) items
  pub far_are : Counts (λ (i : ℕ). RollFar s (name, i)) far
  pub sum : n ≡ 69 * nodes + 69 * (rolls + items + far)

-- that of all stacks
pub record StacksWork (s : StateData) (n : ℕ) : Type 0 where
  pub nodes : ℕ
  pub rolls : ℕ
  pub items : ℕ
  pub far : ℕ
  pub nodes_are : Counts (IsUnready s) nodes
  pub rolls_are : Counts (RollNode s) rolls
  pub items_are : Counts (RollItem s) items
  pub far_are : Counts (RollFar s) far
  pub sum : n ≡ 69 * nodes + 69 * (rolls + items + far)
