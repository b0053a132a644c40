-- When no answer of a call can wear anything out, told by what is left.
use Rattle.std.specs.Prelude.{ℕ}
use Rattle.row_table.specs.declared.row.Row.{Row}
use Rattle.core_state.specs.State.{StateData}
use Rattle.step_relation.specs.Orders.{row_limit}
use Rattle.command_steps.specs.Layouts.{HasNumbers}
use Rattle.command_steps.specs.Rooms.{MayRise}

-- the row's key can be raised, and a rollback's rows and letters, which are no more than rows may stand, be numbered
pub record HasSpare (s : StateData) (r : Row) : Type 0 where
  pub key : MayRise r
  pub numbers : HasNumbers s.next 0 row_limit row_limit
