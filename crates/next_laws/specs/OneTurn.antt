-- A state decides each step: a turn by its engine and what it is given, a command by its arguments.
use Rattle.std.specs.Prelude.{List, ℕ, ◌≡◌}
use Rattle.heat_plan.specs.declared.item.Item.{Item}
use Rattle.core_state.specs.State.{StateData}
use Rattle.core_state.specs.declared.change.Change.{Change}
use Rattle.core_state.specs.declared.entry.Entry.{Entry}
use Rattle.history_laws.specs.Commands.{Lays, Sets, laid_changes, laid_entries}
use Rattle.history_laws.specs.Given.{Given}
use Rattle.history_laws.specs.Turns.{Turn}

-- an engine that is given the same makes the same turn
abbrev pub TurnIsOne : Type 0
TurnIsOne = (s : StateData) (e : ℕ) (given : Given) (cs ds : List Change) (es fs : List Entry)
    → Turn s e given cs es → Turn s e given ds fs → (cs ≡ ds) × (es ≡ fs)

-- what a command lays out is one, whichever graph, rows and leaves it was read off
abbrev pub LayoutIsOne : Type 0
LayoutIsOne = (s : StateData) (name : List ℕ) (items : List Item) (it : Sets) (k q : Lays s name items)
    → (laid_changes s name items it k ≡ laid_changes s name items it q)
    × (laid_entries s name items it k ≡ laid_entries s name items it q)
