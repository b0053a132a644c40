-- What a command makes of a book.
use Rattle.std.specs.Prelude.{List}
use Rattle.heat_plan.specs.declared.refusal.Refusal.{Refusal}
use Rattle.core_state.specs.State.{StateData}
use Rattle.core_state.specs.declared.change.Change.{Change}
use Rattle.core_state.specs.declared.entry.Entry.{Entry}
use Rattle.step_relation.specs.Orders.{Command}
use Rattle.step_relation.specs.Refusals.{RefusesCancel, RefusesCreate, RefusesDelete, RefusesUpdate}
use Rattle.step_relation.specs.Turns.{IsWorn}
use Rattle.command_steps.specs.Answers.{Cancels, Creates, Deletes, Updates}
use Rattle.book.specs.declared.commanding.StackCommand.TheVariants.{Cancel, Create, Delete, Update}
use Rattle.book.specs.declared.commanding.StackCommand.{StackCommand}

-- the case of a command
abbrev pub IsOrder : StateData → StackCommand → List Change → List Entry → Type 0
IsOrder s (Create name plan rollback) cs es = Creates s name plan rollback cs es
IsOrder s (Update name plan rollback) cs es = Updates s name plan rollback cs es
IsOrder s (Delete name) cs es = Deletes s name cs es
IsOrder s (Cancel name) cs es = Cancels s name cs es

-- why it is refused
abbrev pub RefusesOrder : StateData → StackCommand → Refusal → Type 0
RefusesOrder s (Create name plan rollback) r = RefusesCreate s name plan rollback r
RefusesOrder s (Update name plan rollback) r = RefusesUpdate s name plan rollback r
RefusesOrder s (Delete name) r = RefusesDelete s name r
RefusesOrder s (Cancel name) r = RefusesCancel s name r

-- it is a step, and wears nothing out
pub record Orders (s : StateData) (c : StackCommand) (cs : List Change) (es : List Entry) : Type 0 where
  pub its : IsOrder s c cs es
  pub command : Command s cs es
  pub lasts : ¬ IsWorn cs
