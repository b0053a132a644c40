-- Runs: steps, each from the state that the one before left, and the entries that they made.
use Rattle.std.specs.Prelude.{Contains, List, Option, [], unwrap_or, ℕ, ◌++◌, ◌≡◌}
use Rattle.heat_value.specs.Data.{Members}
use Rattle.heat_plan.specs.declared.calls.Answered.{Answered}
use Rattle.heat_plan.specs.declared.facts.KnownFacts.{KnownFacts}
use Rattle.heat_plan.specs.declared.kind.Kind.{Kind}
use Rattle.core_state.specs.Changes.{applied}
use Rattle.core_state.specs.State.{StateData}
use Rattle.core_state.specs.declared.change.Change.{Change}
use Rattle.core_state.specs.declared.entry.Entry.{Entry}
use Rattle.eval_words.specs.Resolve.{Fault, Props, Resolved, resolve}
use Rattle.type_catalog.specs.Changes.{ChangeOf}
use Rattle.type_catalog.specs.declared.effect.Effect.{Effect}
use Rattle.step_relation.specs.Begins.{Begins}
use Rattle.step_relation.specs.Freshness.{plan_of}
use Rattle.step_relation.specs.Given.{Answer, Faulted, Given, Nothing, Prepared}
use Rattle.step_relation.specs.Inputs.{AreKnown}
use Rattle.core_state.specs.declared.entry.What.TheVariants as what
use Rattle.step_relation.specs.Steps.{Step, close, command, enlist, note, restart, stop, turn, unstored}

-- what the item of the node that begins resolves to, with the node's inputs
pub record ResolvesTo (s : StateData) (e : ℕ) (k : Begins s e) (result : Resolved) : Type 0 where
  pub known : List KnownFacts
  pub known_are : AreKnown k.point.inputs k.item.needs known
  pub result_is : resolve (plan_of k.stack.plan) k.item known ≡ result

-- a registry's judges: of a kind's name the properties that change in place, where it has a judge of that name
abbrev pub Judges : Type 0
Judges = List ℕ → Option (List (List ℕ))

-- the properties of a kind that change in place: by its judge, else the kind's own
abbrev pub softs_of : Judges → Kind → List (List ℕ)
softs_of judges kind = unwrap_or (judges kind.name) kind.soft

-- a begin was given what its item resolves to, and what the change to it asks for
pub data IsTied (judges : Judges) (s : StateData) (e : ℕ) : Given → Type 0 where
  nothing : IsTied judges s e Nothing
  answer : (answer : Answered) → IsTied judges s e (Answer answer)
  props : (k : Begins s e) (props : Members) (effect : Effect) → ResolvesTo s e k (Props props)
      → ChangeOf (softs_of judges k.item.kind) k.row.props props effect → IsTied judges s e (Prepared props effect)
  fault : (k : Begins s e) (code : List ℕ) (path : _) → ResolvesTo s e k (Fault code path)
      → IsTied judges s e (Faulted code path)

-- every turn of the step was given so
abbrev pub IsTiedStep : (judges : Judges) (s : StateData) (cs : List Change) (es : List Entry) → Step s cs es → Type 0
IsTiedStep judges s cs es (command it fits) = Unit {0}
IsTiedStep judges s cs es (turn e given it fits) = IsTied judges s e given
IsTiedStep judges s cs es (unstored e given lost all call it some fits first is made) = Unit {0}
IsTiedStep judges s cs es (stop e live is made) = Unit {0}
IsTiedStep judges s cs es (enlist few below is made) = Unit {0}
IsTiedStep judges s cs es (restart count some few below is made) = Unit {0}
IsTiedStep judges s cs es (note it noted is made) = Unit {0}
IsTiedStep judges s cs es (close is made) = Unit {0}

-- the input was closed
pub record IsClosed (h : List Entry) : Type 0 where
  pub entry : Entry
  pub among : Contains h entry
  pub closes : entry.what ≡ what.Closed

-- a step closes the input only where it wasn't closed before
abbrev pub ClosesOnce : (before : List Entry) (s : StateData) (cs : List Change) (es : List Entry)
    → Step s cs es → Type 0
ClosesOnce before s cs es (command it fits) = Unit {0}
ClosesOnce before s cs es (turn e given it fits) = Unit {0}
ClosesOnce before s cs es (unstored e given lost all call it some fits first is made) = Unit {0}
ClosesOnce before s cs es (stop e live is made) = Unit {0}
ClosesOnce before s cs es (enlist few below is made) = Unit {0}
ClosesOnce before s cs es (restart count some few below is made) = Unit {0}
ClosesOnce before s cs es (note it noted is made) = Unit {0}
ClosesOnce before s cs es (close is made) = ¬ IsClosed before

-- from the first state to the last, with all entries between; each turn was given what one of these registries says
pub data Run (registries : List Judges) (first : StateData) : StateData → List Entry → Type 0 where
  begins : (last : StateData) (all : List Entry) → last ≡ first → all ≡ [] → Run registries first last all
  goes_on : (judges : Judges) (mid last : StateData) (cs : List Change) (before after all : List Entry)
      → Run registries first mid before → (step : Step mid cs after) → Contains registries judges
      → IsTiedStep judges mid cs after step
      → ClosesOnce before mid cs after step → last ≡ applied cs mid → all ≡ before ++ after
      → Run registries first last all
