-- What the lines do that make one step by the reader of commands: the commands, and the changes of engines; and those
-- that give kinds, which make none.
use Rattle.std.specs.Prelude.{◌≡◌, ℕ, List, [], Some, None, codes}
use Rattle.heat_value.specs.Data.{Data}
use Rattle.heat_value.specs.declared.path.Step.{Step}
use Rattle.hot_catalog.specs.Catalogs.{read_flaw}
use Rattle.heat_plan.specs.Plans.{PlanData}
use Rattle.heat_plan.specs.Refusals.{code_of}
use Rattle.heat_plan.specs.declared.refusal.Refusal.{Refusal}
use Rattle.heat_plan.specs.declared.refusal.Refusal.TheVariants as refusal
use Rattle.core_state.specs.declared.change.Change.{Change}
use Rattle.core_state.specs.declared.entry.Entry.{Entry}
use Rattle.core_state.specs.Changes.{applied}
use Rattle.core_state.specs.State.{StateData}
use Rattle.step_relation.specs.Refusals.{RefusesEnlist, RefusesStop}
use Rattle.driver.specs.Below.{Enlists, Stops}
use Rattle.script_lines.specs.Requested.{BodyData}
use Rattle.template_plans.specs.Plans.{Beside, beside, IsPlanOf, IsNoPlan}
use Rattle.template_plans.specs.Faults.{fault_code, fault_path}
use Rattle.template_plans.specs.declared.fault.PlanFault.{PlanFault}
use Rattle.driver.specs.Commands.{IsOrder, RefusesOrder}
use Rattle.driver.specs.Quiet.{number_of}
use Rattle.driver.specs.declared.StackCommand.{StackCommand}
use Rattle.converge_call.specs.Notes.{refused, refused_at, Notes, IsNothing, IsUndone}
use Rattle.converge_call.specs.Stocks.{Stock}
use Rattle.converge_call.specs.declared.exit.Exit.{Exit}
use Rattle.converge_call.specs.declared.exit.Exit.TheVariants as exit

-- the line was refused with the code of this refusal
pub record IsRefusedFor (number : ℕ) (r : Refusal) (old new : StateData) (es : List Entry) : Type 0 where
  pub code : List ℕ
  pub its_code : code_of r ≡ Some code
  pub noted : Notes (refused number code) old new es

-- how a line ends whose step wasn't made, where that has no code
abbrev pub exit_unmade : Refusal → Exit
exit_unmade refusal.StackExists = exit.Memory
exit_unmade refusal.NoStack = exit.Memory
exit_unmade refusal.Deleting = exit.Memory
exit_unmade refusal.TooManyStacks = exit.Memory
exit_unmade refusal.TooManyRows = exit.Memory
exit_unmade refusal.Worn = exit.Memory
exit_unmade refusal.NoEngine = exit.Memory
exit_unmade refusal.TooManyEngines = exit.Memory
exit_unmade refusal.NotRunning = exit.Memory
exit_unmade refusal.DiskFault = exit.DiskFault
exit_unmade refusal.Memory = exit.Memory

-- nothing was done, since there was no memory for the note; or for this
pub data IsUnmadeFor (r : Refusal) (old new : StateData) (es : List Entry) (why : Exit) : Type 0 where
  unnoted : IsUndone old new es why → IsUnmadeFor r old new es why
  uncoded : code_of r ≡ None → new ≡ old → es ≡ [] → why ≡ exit_unmade r → IsUnmadeFor r old new es why

-- one such step was made, or the line was refused for the first cause that holds
pub data StepDoes (number : ℕ) (Is : List Change → List Entry → Type 0) (Refuses : Refusal → Type 0)
    (old new : StateData) (es : List Entry) : Type 0 where
  made : (cs : List Change) → Is cs es → new ≡ applied cs old → StepDoes number Is Refuses old new es
  not_made : (r : Refusal) → Refuses r → IsRefusedFor number r old new es → StepDoes number Is Refuses old new es

-- a command on a stack
abbrev pub OrderDoes : ℕ → StackCommand → StateData → StateData → List Entry → Type 0
OrderDoes number c old new es = StepDoes number (IsOrder old c) (RefusesOrder old c) old new es

-- the line was refused with the code of this fault, at its place
pub record IsUnplannedFor (number : ℕ) (why : PlanFault) (old new : StateData) (es : List Entry) : Type 0 where
  pub code : List ℕ
  pub its_code : fault_code why ≡ Some code
  pub noted : Notes (refused_at number code (fault_path why)) old new es

-- what stands beside a body for the stack of this name: the stack's number, or the one that a create would draw, and
-- what is in stock
abbrev pub beside_body : Stock → StateData → List ℕ → Beside
beside_body t s name = beside (record { stack = name; no = number_of s name }) t.tests t.catalog

-- a command on the stack of this name with the plan of a body, which may have none
pub data BodyDoes (t : Stock) (number : ℕ) (name : List ℕ) (body : BodyData) (order : PlanData → StackCommand)
    (old new : StateData) (es : List Entry) : Type 0 where
  planned : (plan : PlanData) → IsPlanOf body (beside_body t old name) plan → OrderDoes number (order plan) old new es
      → BodyDoes t number name body order old new es
  unplanned : (why : PlanFault) → IsNoPlan body (beside_body t old name) why → IsUnplannedFor number why old new es
      → BodyDoes t number name body order old new es

-- a catalogue is taken, or the line was refused with the place of the catalogue's first fault
pub data TypesDoes (t : Stock) (number : ℕ) (given : Data) (old new : StateData) (es : List Entry) : Type 0 where
  taken : read_flaw t.catalog given ≡ None → IsNothing old new es → TypesDoes t number given old new es
  not_taken : (path : List Step) → read_flaw t.catalog given ≡ Some path
      → Notes (refused_at number (codes "L09") (Some path)) old new es → TypesDoes t number given old new es

-- an engine is stopped
abbrev pub StopDoes : ℕ → ℕ → StateData → StateData → List Entry → Type 0
StopDoes number e old new es = StepDoes number (Stops old e) (RefusesStop old e) old new es

-- an engine more is live
abbrev pub StartDoes : ℕ → StateData → StateData → List Entry → Type 0
StartDoes number old new es = StepDoes number (Enlists old) (RefusesEnlist old) old new es
