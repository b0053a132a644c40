-- A command's layout before its numbers are drawn, and its draft behind that, with its changes and entries.
use Rattle.std.specs.Prelude.{List, [], length, map, ℕ, ◌+◌, ◌++◌, ◌^◌, ◌∷◌, ◌≡◌, ◌≤◌}
use Rattle.heat_plan.specs.declared.item.Item.{Item}
use Rattle.heat_plan.specs.declared.phase.Status.TheVariants.{InProgress}
use Rattle.traversal_graph.specs.declared.shape.Node.{Node}
use Rattle.core_state.specs.State.{StateData}
use Rattle.core_state.specs.declared.change.Change.{Change}
use Rattle.core_state.specs.declared.change.Change.TheVariants.{PutGraph, PutPast, PutRow, PutStack, Send}
use Rattle.core_state.specs.declared.entry.Actor.{Actor}
use Rattle.core_state.specs.declared.entry.Entry.{Entry}
use Rattle.core_state.specs.declared.entry.MailWrite.TheVariants.{Sent}
use Rattle.core_state.specs.declared.entry.RowWrite.TheVariants.{Set}
use Rattle.core_state.specs.declared.numbers.Numbers.{Numbers}
use Rattle.core_state.specs.declared.stack.Stack.{Stack}
use Rattle.step_relation.specs.Commands.{Lays, Sets, first_letters, past_command, stack_set}
use Rattle.step_relation.specs.Writes.{complete_mark, entry_of, mail_entry, mark_complete, rows_entry}
use Rattle.command_steps.specs.Choices.{lacking, numbered, rows_made}
use Rattle.command_steps.specs.declared.draft.Draft.{Draft}
use Rattle.command_steps.specs.declared.layout.Layout.{Layout}
use Rattle.core_state.specs.declared.change.Change.TheVariants as change_to
use Rattle.core_state.specs.declared.entry.What.TheVariants as what

-- so many numbers of each sort are left below 2^62
pub record HasNumbers (next : Numbers) (stacks rows letters : ℕ) : Type 0 where
  pub stacks_fit : next.stack + stacks ≤ 2 ^ 62
  pub trav_fits : next.trav + 1 ≤ 2 ^ 62
  pub rows_fit : next.row + rows ≤ 2 ^ 62
  pub engine_fits : next.engine ≤ 2 ^ 62
  pub letters_fit : next.letter + letters ≤ 2 ^ 62

-- a layout's parts are those of what the command lays; its graph has the rows' numbers where they suffice
pub record IsLaidOut (s : StateData) (name : List ℕ) (items : List Item) (layout : Layout) : Type 0 where
  pub lays : Lays s name items
  pub chosen_are : lays.chosen ≡ numbered s.next.row layout.found
  pub rows_are : lays.rows ≡ rows_made name s.next.trav s.next.row items layout.found
  pub each : length layout.found ≡ length items
  pub many : length lays.rows ≡ lacking layout.found
  pub leaves_are : lays.leaves ≡ layout.leaves
  pub graph_is : s.next.row + lacking layout.found ≤ 2 ^ 62 → lays.graph ≡ layout.graph

-- a draft is of what the command lays
pub record IsDraft (s : StateData) (name : List ℕ) (items : List Item) (it : Sets) (draft : Draft) : Type 0 where
  pub lays : Lays s name items
  pub actor_is : draft.actor ≡ it.actor
  pub next_are : draft.next ≡ past_command s.next it.stacks (length lays.rows) (length lays.leaves)
  pub stack_is : draft.stack ≡ stack_set s name it InProgress
  pub past_is : draft.past ≡ it.past
  pub rows_are : draft.rows ≡ lays.rows
  pub graph_is : draft.graph ≡ lays.graph
  pub letters_are : draft.letters ≡ first_letters s name items it lays
  pub numbers : HasNumbers s.next it.stacks (length lays.rows) (length lays.leaves)

-- a graph without nodes is done at once
abbrev pub settles : List Node → Stack → List Change
settles [] st = mark_complete st
settles (node ∷ nodes) st = []

abbrev pub settle_mark : List Node → Actor → Stack → List Entry
settle_mark [] actor st = complete_mark actor st ∷ []
settle_mark (node ∷ nodes) actor st = []

-- the changes and entries of a draft
abbrev pub draft_changes : Draft → List Change
draft_changes d =
    change_to.Numbers d.next
    ∷ PutStack d.stack
    ∷ PutPast d.past
    ∷ (map PutRow d.rows ++ (PutGraph d.stack.name d.graph ∷ (map Send d.letters ++ settles d.graph.nodes d.stack)))

abbrev pub draft_entries : Draft → List Entry
draft_entries d =
    entry_of d.actor (what.Command d.stack.name d.stack.trav d.stack.act d.stack.plan d.past.rollback)
    ∷ (rows_entry d.actor (map Set d.rows)
    ++ (mail_entry d.actor (map Sent d.letters) ++ settle_mark d.graph.nodes d.actor d.stack))
