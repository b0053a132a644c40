-- What a step leaves of every stack that it isn't on.
use Rattle.std.specs.Prelude.{Contains, List, None, Option, Some, ℕ, ◌++◌, ◌≡◌, ◌≢◌, ◌≤◌, ◌⊎◌, ◌↔◌}
use Rattle.heat_plan.specs.declared.token.Token.{Token}
use Rattle.row_table.specs.Rows.{row_at}
use Rattle.row_table.specs.declared.row.Row.{Row}
use Rattle.mail_table.specs.Mails.{job_at, letter_at}
use Rattle.mail_table.specs.declared.mail.Job.{Job}
use Rattle.mail_table.specs.declared.mail.Letter.{Letter}
use Rattle.step_relation.specs.Applies.{NoneFalls}
use Rattle.step_relation.specs.Changes.{applied}
use Rattle.step_relation.specs.State.{StateData, graph_at, past_at, stack_at}
use Rattle.step_relation.specs.declared.Change.{Change}
use Rattle.step_relation.specs.declared.Entry.{Entry}
use Rattle.step_relation.specs.Given.{Answer, Given}
use Rattle.step_relation.specs.Orders.{Command, cancel, create, delete, update}
use Rattle.step_relation.specs.Steps.{Step, close, command, enlist, note, restart, stop, turn, unstored}
use Rattle.step_relation.specs.Turns.{Turn, plain, rolls}
use Rattle.step_relation.specs.Could.{could_of}
use Rattle.step_relation.specs.Marked.{marked_of}
use Rattle.step_relation.specs.Newest.{newest, rollback_of}
use Rattle.step_relation.specs.Opening.{Opening}
use Rattle.step_relation.specs.Stored.{released}
use Rattle.history_laws.specs.frames.Laws.{stack_of}
use Rattle.step_relation.specs.Sound.{Standing}

-- all that stands of a stack, and all that the history says of it
pub record LeavesStack (o : Opening) (name : List ℕ) (s : StateData) (h : List Entry) (t : StateData)
    (after : List Entry) : Type 0 where
  pub stack : stack_at t.stacks name ≡ stack_at s.stacks name
  pub graph : graph_at t.graphs name ≡ graph_at s.graphs name
  pub past : past_at t.pasts name ≡ past_at s.pasts name
  pub rows : (n : ℕ) (r : Row) → r.stack ≡ name → (row_at t.rows n ≡ Some r) ↔ (row_at s.rows n ≡ Some r)
  pub letters : (n : ℕ) (l : Letter) → l.stack ≡ name
      → (letter_at t.letters n ≡ Some l) ↔ (letter_at s.letters n ≡ Some l)
  pub jobs : (e : ℕ) (j : Job) → j.letter.stack ≡ name → (job_at t.jobs e ≡ Some j) ↔ (job_at s.jobs e ≡ Some j)
  pub tokens : (token : Token) → token.stack ≡ name → could_of o after token ≡ could_of o h token
  pub owned : (token : Token) → token.stack ≡ name → Contains (released o after) token ↔ Contains (released o h) token
  pub traversal : newest o after name ≡ newest o h name
  pub mark : marked_of o after name ≡ marked_of o h name
  pub rollback : rollback_of o after name ≡ rollback_of o h name

-- the stack that a command is on
abbrev pub command_stack : (s : StateData) (cs : List Change) (es : List Entry) → Command s cs es → List ℕ
command_stack s cs es (create name plan rollback k proper free few room is made) = name
command_stack s cs es (update st plan rollback k proper in_table keeps room is made) = st.name
command_stack s cs es (delete st k in_table is made) = st.name
command_stack s cs es (cancel st k in_table forward unmarked room is made) = st.name

-- that of a turn: its letter's or its job's, whether a rollback follows or not
abbrev pub turn_stack : (s : StateData) (e : ℕ) (given : Given) (cs : List Change) (es : List Entry)
    → Turn s e given cs es → List ℕ
turn_stack s e given cs es (plain failed move quiet) = stack_of s e given failed cs es move
turn_stack s e given cs es (rolls st first last firsts lasts move due follows is made) =
    stack_of s e given (Some st) first firsts move

-- that of a step; engines that come and go, notes and the closing are on none
abbrev pub step_stack : (s : StateData) (cs : List Change) (es : List Entry) → Step s cs es → Option (List ℕ)
step_stack s cs es (command it fits) = Some (command_stack s cs es it)
step_stack s cs es (turn e given it fits) = Some (turn_stack s e given cs es it)
step_stack s cs es (unstored e given lost all call it some fits first is made) =
    Some (turn_stack s e (Answer given) lost all it)
step_stack s cs es (stop e live is made) = None
step_stack s cs es (enlist few below is made) = None
step_stack s cs es (restart count some few below is made) = None
step_stack s cs es (note it noted is made) = None
step_stack s cs es (close is made) = None

-- a step leaves every stack that it isn't on
abbrev pub StepsLeaveOthers : Type 0
StepsLeaveOthers = (o : Opening) (h : List Entry) (s : StateData) (cs : List Change) (es : List Entry) → Standing s
    → (step : Step s cs es)
    → (name : List ℕ) → step_stack s cs es step ≢ Some name → LeavesStack o name s h (applied cs s) (h ++ es)

-- what a step on this stack makes of it, and of the next numbers
pub record Bears (own : Option (List ℕ)) (s t : StateData) : Type 0 where
  -- a row of the stack that stands behind the step was one of it, or has a number from the next one on
  pub born : (name : List ℕ) (n : ℕ) (q : Row) → own ≡ Some name → q.stack ≡ name → row_at t.rows n ≡ Some q
      → ((r : Row) × (row_at s.rows n ≡ Some r) × (r.stack ≡ name)) ⊎ (s.next.row ≤ n)
  -- no next number falls
  pub rises : NoneFalls s.next t.next

-- every step does so
abbrev pub StepsBear : Type 0
StepsBear = (s : StateData) (cs : List Change) (es : List Entry) → Standing s → (step : Step s cs es)
    → Bears (step_stack s cs es step) s (applied cs s)
