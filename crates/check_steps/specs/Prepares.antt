-- What is prepared for a step from what was looked at.
use Rattle.std.specs.Prelude.{List, ℕ, ◌≡◌}
use Rattle.heat_value.specs.Data.{Members}
use Rattle.heat_plan.specs.Plans.{PlanData}
use Rattle.heat_plan.specs.declared.facts.KnownFacts.{KnownFacts}
use Rattle.heat_plan.specs.declared.item.Item.{Item}
use Rattle.sync_points.specs.declared.point.Input.{Input}
use Rattle.core_state.specs.State.{StateData}
use Rattle.eval_words.specs.Resolve.{Resolved, resolve}
use Rattle.eval_words.specs.Resolve as resolved
use Rattle.type_catalog.specs.Changes.{ChangeOf}
use Rattle.step_relation.specs.Inputs.{AreKnown}
use Rattle.check_steps.specs.Looks.{IsBegin}
use Rattle.check_steps.specs.declared.looks.BeginWork.{BeginWork}
use Rattle.check_steps.specs.declared.looks.Work.TheVariants as work
use Rattle.check_steps.specs.declared.looks.Work.{Work}
use Rattle.check_steps.specs.declared.prepared.Prepared.TheVariants as prepared
use Rattle.check_steps.specs.declared.prepared.Prepared.{Prepared}

-- the item resolves to this, with the facts that its node was given
pub record Resolves (plan : PlanData) (item : Item) (inputs : List Input) (result : Resolved) : Type 0 where
  pub known : List KnownFacts
  pub known_are : AreKnown inputs item.needs known
  pub result_is : resolve plan item known ≡ result

-- the item's properties, with what the change of the row's to them asks for; or its fault; or no memory
abbrev pub IsGivenFor : PlanData → Item → List Input → Members → Prepared → Type 0
IsGivenFor plan item inputs props (prepared.Props asked effect) =
    Resolves plan item inputs (resolved.Props asked) × ChangeOf item.kind.soft props asked effect
IsGivenFor plan item inputs props (prepared.Fault code path) = Resolves plan item inputs (resolved.Fault code path)
IsGivenFor plan item inputs props prepared.Plain = ⊥
IsGivenFor plan item inputs props prepared.Memory = Unit {0}

-- what was prepared for a begin
abbrev pub IsBeginPrepared : BeginWork → Prepared → Type 0
IsBeginPrepared w it = IsGivenFor w.plan w.item w.inputs w.props it

-- for another step nothing is prepared
abbrev pub IsPrepared : Work → Prepared → Type 0
IsPrepared (work.Begin w) it = IsBeginPrepared w it
IsPrepared work.Plain it = it ≡ prepared.Plain

-- what was prepared for the begin that is the engine's next step
pub record HasPrepared (s : StateData) (e : ℕ) (it : Prepared) : Type 0 where
  pub work : BeginWork
  pub begins : IsBegin s e work
  pub given : IsBeginPrepared work it
