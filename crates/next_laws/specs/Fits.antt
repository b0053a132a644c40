-- An engine that turns is given what suits it, and what suits it is of one kind.
use Rattle.std.specs.Prelude.{Contains, List, ℕ}
use Rattle.heat_value.specs.Data.{Members}
use Rattle.heat_value.specs.declared.path.Step.{Step}
use Rattle.heat_plan.specs.declared.calls.Answered.{Answered}
use Rattle.heat_plan.specs.declared.calls.Request.{Request}
use Rattle.core_state.specs.State.{StateData}
use Rattle.core_state.specs.declared.change.Change.{Change}
use Rattle.core_state.specs.declared.entry.Entry.{Entry}
use Rattle.type_catalog.specs.declared.effect.Effect.{Effect}
use Rattle.history_laws.specs.Given.{Answer, Faulted, Given, Nothing, Prepared}
use Rattle.history_laws.specs.Nexts.{IsIdle}
use Rattle.history_laws.specs.Turns.{Turn}
use Rattle.next_laws.specs.Suits.{MayAnswer, Suits}

-- what a turn was given suits the engine's next step
abbrev pub TurnSuits : Type 0
TurnSuits = (s : StateData) (e : ℕ) (given : Given) (cs : List Change) (es : List Entry)
    → Turn s e given cs es → Suits s e given

-- a turn is of a live engine that isn't idle
abbrev pub TurnIsLive : Type 0
TurnIsLive = (s : StateData) (e : ℕ) (given : Given) (cs : List Change) (es : List Entry) → Turn s e given cs es
    → Contains s.live e × ¬ IsIdle s e

-- what comes of an item: its properties, or a fault of them
pub data IsOfItem : Given → Type 0 where
  prepared : (props : Members) (effect : Effect) → IsOfItem (Prepared props effect)
  faulted : (code : List ℕ) (path : List Step) → IsOfItem (Faulted code path)

-- of one kind: both nothing, both of an item, or both answers that one request may have
pub data IsKin : Given → Given → Type 0 where
  nothing : IsKin Nothing Nothing
  items : (a b : Given) → IsOfItem a → IsOfItem b → IsKin a b
  answers : (asked : Request) (a b : Answered) → MayAnswer asked a → MayAnswer asked b → IsKin (Answer a) (Answer b)

-- all that suits an engine's next step is of one kind
abbrev pub SuitsIsOneKind : Type 0
SuitsIsOneKind = (s : StateData) (e : ℕ) (a b : Given) → Suits s e a → Suits s e b → IsKin a b
