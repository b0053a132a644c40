-- The state that lists of changes make of nothing, one list after another.
use Rattle.std.specs.Prelude.{List, None, Option, Some, flat_map, ◌≡◌}
use Rattle.core_state.specs.Applies.{AllApply}
use Rattle.core_state.specs.Changes.{applied}
use Rattle.core_state.specs.State.{Held, StateData}
use Rattle.core_state.specs.declared.change.Change.{Change}
use Rattle.step_relation.specs.Opening.{bare}

-- all lists as one
abbrev pub joined : List (List Change) → List Change
joined = flat_map (λ (cs : List Change). cs)

-- they all apply, and this is the state behind them
pub record IsReplay (lists : List (List Change)) (s : StateData) : Type 0 where
  pub applies : AllApply (joined lists) bare
  pub gives : s ≡ applied (joined lists) bare

-- the state that they make, or none where they don't all apply
abbrev pub IsReplayed : List (List Change) → Option Held → Type 0
IsReplayed lists None = ¬ AllApply (joined lists) bare
IsReplayed lists (Some s) = IsReplay lists s.state
