-- What the call of an engine's step answers.
use Rattle.std.specs.Prelude.{◌≡◌, ℕ}
use Rattle.heat_plan.specs.declared.refusal.Refusal.{Refusal}
use Rattle.heat_plan.specs.declared.refusal.Refusal.TheVariants.{Memory, Worn}
use Rattle.core_state.specs.State.{StateData}
use Rattle.core_state.specs.declared.made.Made.{Made}
use Rattle.step_relation.specs.Given.{Given}
use Rattle.step_relation.specs.Turns.{Turn, WearsOut}

-- the engine's turn, which is worn out under no answer that its request may have
pub record IsTurn (s : StateData) (e : ℕ) (given : Given) (made : Made) : Type 0 where
  pub turn : Turn s e given made.changes made.entries
  pub lasts : ¬ WearsOut s e given

-- want of memory, or a turn that is worn out
pub data IsTurnRefusal (s : StateData) (e : ℕ) (given : Given) (r : Refusal) : Type 0 where
  memory : r ≡ Memory → IsTurnRefusal s e given r
  worn : r ≡ Worn → WearsOut s e given → IsTurnRefusal s e given r
