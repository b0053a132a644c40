-- The steps of the answers that a call may have, made before the cloud is asked.
use Rattle.std.specs.Prelude.{List, ℕ, ◌≡◌}
use Rattle.heat_plan.specs.declared.calls.Answered.{Answered}
use Rattle.heat_plan.specs.declared.phase.Act.TheVariants.{Create}
use Rattle.row_table.specs.declared.row.Row.{Row}
use Rattle.mail_table.specs.declared.mail.Stage.{Stage}
use Rattle.core_state.specs.State.{StateData}
use Rattle.core_state.specs.declared.change.Change.{Change}
use Rattle.core_state.specs.declared.made.Made.{Made}
use Rattle.step_relation.specs.Asks.{Calls}
use Rattle.step_relation.specs.Given.{Answer}
use Rattle.step_relation.specs.Rows.{token_of}
use Rattle.step_parts.specs.Turns.{IsTurn}
use Rattle.heat_plan.specs.declared.calls.Answered.TheVariants as answer
use Rattle.book.specs.Keeping.{HasRoom, IsStorable}
use Rattle.book.specs.declared.ask.AskOutcomes.{AskOutcomes}
use Rattle.book.specs.declared.looking.GoneOutcomes.{GoneOutcomes}
use Rattle.book.specs.declared.poll.PollOutcomes.{PollOutcomes}

-- the row of the engine's call
abbrev pub IsCalled : StateData → ℕ → Row → Type 0
IsCalled s e r = (stage : Stage) (k : Calls s e stage) → k.row ≡ r

-- the turn under this answer
abbrev pub IsAnswered : StateData → ℕ → Answered → Made → Type 0
IsAnswered s e given made = IsTurn s e (Answer given) made

-- the token to ask under, and the turn of each answer; that of a quota where a create is asked
pub record AskIsMade (s : StateData) (e : ℕ) (o : AskOutcomes) : Type 0 where
  pub row : Row
  pub called : IsCalled s e row
  pub token : o.token ≡ token_of row
  pub begun : IsAnswered s e answer.Begun o.begun
  pub quota : row.act ≡ Create → IsAnswered s e answer.Quota o.quota
  pub failed : IsAnswered s e answer.Failed o.failed
  pub storable : IsStorable s o.quota.changes

-- there is room for each
pub record AskHasRoom (has_room : List Change → Type 0) (room pages : ℕ) (o : AskOutcomes) : Type 0 where
  pub begun : HasRoom has_room room pages o.begun
  pub quota : HasRoom has_room room pages o.quota
  pub failed : HasRoom has_room room pages o.failed

-- the token to poll, and the turn of each answer whose size is known
pub record PollIsMade (s : StateData) (e : ℕ) (o : PollOutcomes) : Type 0 where
  pub row : Row
  pub called : IsCalled s e row
  pub token : o.token ≡ token_of row
  pub not_yet : IsAnswered s e answer.NotYet o.not_yet
  pub failed : IsAnswered s e answer.Failed o.failed

pub record PollHasRoom (has_room : List Change → Type 0) (room pages : ℕ) (o : PollOutcomes) : Type 0 where
  pub not_yet : HasRoom has_room room pages o.not_yet
  pub failed : HasRoom has_room room pages o.failed

-- the token to ask after, and the turn of each answer
pub record GoneIsMade (s : StateData) (e : ℕ) (o : GoneOutcomes) : Type 0 where
  pub row : Row
  pub called : IsCalled s e row
  pub token : o.token ≡ token_of row
  pub gone : IsAnswered s e answer.Gone o.gone
  pub not_yet : IsAnswered s e answer.NotYet o.not_yet
  pub failed : IsAnswered s e answer.Failed o.failed

pub record GoneHasRoom (has_room : List Change → Type 0) (room pages : ℕ) (o : GoneOutcomes) : Type 0 where
  pub gone : HasRoom has_room room pages o.gone
  pub not_yet : HasRoom has_room room pages o.not_yet
  pub failed : HasRoom has_room room pages o.failed
