-- What a command lays out: rows, a graph, and the letters that begin it.
use Rattle.std.specs.Prelude.{Contains, List, Option, Some, [], length, map, ℕ, ◌++◌, ◌+◌, ◌<◌, ◌∷◌, ◌≡◌}
use Rattle.heat_plan.specs.Plans.{PlanData}
use Rattle.heat_plan.specs.declared.item.Item.{Item}
use Rattle.heat_plan.specs.declared.phase.Act.{Act}
use Rattle.heat_plan.specs.declared.phase.Status.{Status}
use Rattle.heat_plan.specs.declared.phase.Status.TheVariants.{InProgress}
use Rattle.dep_graph.specs.Lists.{IsRising, ListsAll}
use Rattle.traversal_graph.specs.Builds.{Joins}
use Rattle.traversal_graph.specs.Nodes.{IsBuilt}
use Rattle.traversal_graph.specs.declared.brief.RowBrief.{RowBrief}
use Rattle.traversal_graph.specs.declared.shape.Node.{Node}
use Rattle.traversal_graph.specs.declared.shape.TravGraph.{TravGraph}
use Rattle.row_table.specs.Rows.{row_at, row_key}
use Rattle.row_table.specs.declared.row.Row.{Row}
use Rattle.mail_table.specs.declared.mail.Letter.{Letter}
use Rattle.core_state.specs.State.{StateData}
use Rattle.core_state.specs.declared.change.Change.{Change}
use Rattle.core_state.specs.declared.change.Change.TheVariants.{PutGraph, PutPast, PutRow, PutStack, Send}
use Rattle.core_state.specs.declared.entry.Actor.{Actor}
use Rattle.core_state.specs.declared.entry.Entry.{Entry}
use Rattle.core_state.specs.declared.entry.MailWrite.TheVariants.{Sent}
use Rattle.core_state.specs.declared.entry.RowWrite.TheVariants.{Set}
use Rattle.core_state.specs.declared.numbers.Numbers.{Numbers}
use Rattle.core_state.specs.declared.past.Past.{Past}
use Rattle.core_state.specs.declared.stack.Stack.{Stack}
use Rattle.step_relation.specs.Rows.{new_row}
use Rattle.step_relation.specs.Targets.{HasNoCurrent, IsCurrentOf}
use Rattle.step_relation.specs.Writes.{complete_mark, entry_of, letters_to, mail_entry, mark_complete, rows_entry}
use Rattle.core_state.specs.declared.change.Change.TheVariants as change_to
use Rattle.core_state.specs.declared.entry.What.TheVariants as what

-- for each item the current row of its name, or a new row, numbered in the items' order
pub data Chooses (s : StateData) (stack : List ℕ) (trav : ℕ) : ℕ → List Item → List ℕ → List Row → Type 0 where
  none : (next : ℕ) → Chooses s stack trav next [] [] []
  current : (next : ℕ) (item : Item) (items : List Item) (r : Row) (chosen : List ℕ) (rows : List Row)
      → IsCurrentOf s.rows stack item.name r → Chooses s stack trav next items chosen rows
      → Chooses s stack trav next (item ∷ items) (r.no ∷ chosen) rows
  fresh : (next : ℕ) (item : Item) (items : List Item) (chosen : List ℕ) (rows : List Row)
      → HasNoCurrent s.rows stack item.name → Chooses s stack trav (next + 1) items chosen rows
      → Chooses s stack trav next (item ∷ items) (next ∷ chosen) (new_row stack trav next item ∷ rows)

-- what the graph reads of a row
abbrev pub brief_of : Row → RowBrief
brief_of r = record { no = r.no; name = r.name; requires_ = r.requires_; replaces = r.replaces }

-- the rows of a stack, each once
pub record AreRowsOf (rows : List Row) (stack : List ℕ) (standing : List Row) : Type 0 where
  pub rising : IsRising (map row_key standing)
  pub each : (n : ℕ) (r : Row) → row_at rows n ≡ Some r → r.stack ≡ stack → Contains standing r
  pub only : (r : Row) → Contains standing r → (row_at rows r.no ≡ Some r) × (r.stack ≡ stack)

-- a node into which no edge leads
abbrev pub IsLeaf : TravGraph → ℕ → Type 0
IsLeaf graph node = (node < length graph.nodes) × ((before : ℕ) → ¬ Joins graph.edges before node)

-- a command's rows, graph and leaves, for a stack of this name and these items
pub record Lays (s : StateData) (name : List ℕ) (items : List Item) : Type 0 where
  pub chosen : List ℕ
  pub rows : List Row
  pub chooses : Chooses s name s.next.trav s.next.row items chosen rows
  pub standing : List Row
  pub standing_are : AreRowsOf s.rows name standing
  pub graph : TravGraph
  pub built : IsBuilt items chosen (map brief_of standing) graph
  pub leaves : List ℕ
  pub leaves_are : ListsAll (IsLeaf graph) leaves

-- what a command sets of its stack
pub record Sets : Type 0 where
  pub actor : Actor
  pub no_ : ℕ
  pub act : Act
  pub plan : Option PlanData
  pub past : Past
  pub stacks : ℕ

-- the stack that a command leaves, with this status
abbrev pub stack_set : StateData → List ℕ → Sets → Status → Stack
stack_set s name it status = record {
  name = name;
  no = it.no_;
  trav = s.next.trav;
  act = it.act;
  status = status;
  plan = it.plan;
}

-- the next numbers behind a command
abbrev pub past_command : Numbers → ℕ → ℕ → ℕ → Numbers
past_command next stacks rows letters = record {
  stack = next.stack + stacks;
  trav = next.trav + 1;
  row = next.row + rows;
  engine = next.engine;
  letter = next.letter + letters;
}

-- a letter to each node that waits for no other
abbrev pub first_letters : (s : StateData) (name : List ℕ) (items : List Item) (it : Sets) → Lays s name items
    → List Letter
first_letters s name items it k = letters_to (stack_set s name it InProgress) s.next.letter k.leaves

-- a graph without nodes is done at once
abbrev pub settles_at_once : List Node → StateData → List ℕ → Sets → List Change
settles_at_once [] s name it = mark_complete (stack_set s name it InProgress)
settles_at_once (node ∷ nodes) s name it = []

-- what is told of it: the mark of a stack that is complete
abbrev pub settled_mark : List Node → StateData → List ℕ → Sets → List Entry
settled_mark [] s name it = complete_mark it.actor (stack_set s name it InProgress) ∷ []
settled_mark (node ∷ nodes) s name it = []

-- numbers, the stack and its past, the new rows, the graph, the first letters, the mark where there is nothing to do
abbrev pub laid_changes : (s : StateData) (name : List ℕ) (items : List Item) (it : Sets) → Lays s name items
    → List Change
laid_changes s name items it k =
    change_to.Numbers (past_command s.next it.stacks (length k.rows) (length k.leaves))
    ∷ PutStack (stack_set s name it InProgress)
    ∷ PutPast it.past
    ∷ (map PutRow k.rows
    ++ (PutGraph name k.graph
    ∷ (map Send (first_letters s name items it k) ++ settles_at_once k.graph.nodes s name it)))

-- what is told of it: the command, the new rows, the first letters, the mark where there is nothing to do
abbrev pub laid_entries : (s : StateData) (name : List ℕ) (items : List Item) (it : Sets) → Lays s name items
    → List Entry
laid_entries s name items it k =
    entry_of it.actor (what.Command name s.next.trav it.act it.plan it.past.rollback)
    ∷ (rows_entry it.actor (map Set k.rows)
    ++ (mail_entry it.actor (map Sent (first_letters s name items it k)) ++ settled_mark k.graph.nodes s name it))
