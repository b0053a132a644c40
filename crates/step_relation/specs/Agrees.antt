-- What may be alive under a row's token fits the row.
use Rattle.std.specs.Prelude.{Contains, List, None, Some, true, unwrap_or, ℕ, ◌≡◌, ◌≢◌, ◌⊎◌}
use Rattle.heat_value.specs.Data.{Members}
use Rattle.heat_plan.specs.declared.phase.Act.TheVariants.{Create, Delete, Init, Update}
use Rattle.heat_plan.specs.declared.phase.Status.TheVariants.{Complete, InProgress}
use Rattle.heat_plan.specs.declared.token.Token.{Token}
use Rattle.provider.specs.Table.{Living, TokenState}
use Rattle.row_table.specs.Rows.{row_at}
use Rattle.row_table.specs.declared.row.Row.{Row}
use Rattle.mail_table.specs.Mails.{job_at}
use Rattle.mail_table.specs.declared.mail.Job.{Job}
use Rattle.mail_table.specs.declared.mail.Stage.TheVariants.{Polling}
use Rattle.core_state.specs.State.{StateData}
use Rattle.core_state.specs.declared.entry.Entry.{Entry}
use Rattle.step_relation.specs.Rows.{token_of}
use Rattle.step_relation.specs.Could.{could_of}
use Rattle.step_relation.specs.Opening.{Opening}
use Rattle.step_relation.specs.Tokens.{IsNamed}

-- alive with the row's kind and these properties
pub record IsAliveAs (r : Row) (props : Members) (state : TokenState) : Type 0 where
  pub it : Living
  pub alive : state ≡ Some it
  pub kind : it.kind ≡ r.kind.name
  pub props_are : it.props ≡ props

-- with the row's facts too
pub record IsReadyAs (r : Row) (state : TokenState) : Type 0 where
  pub alive : IsAliveAs r r.props state
  pub facts : alive.it.facts ≡ r.facts

-- a state of a row's token, by the row's act and status
pub record StateFits (r : Row) (state : TokenState) : Type 0 where
  pub init : r.act ≡ Init → state ≡ None
  pub creating : r.act ≡ Create → r.status ≡ InProgress → (state ≡ None) ⊎ IsAliveAs r r.props state
  pub ready : r.status ≡ Complete → r.act ≢ Init → r.act ≢ Delete → IsReadyAs r state
  pub updating : r.act ≡ Update → r.status ≡ InProgress
      → IsAliveAs r r.props state ⊎ IsAliveAs r (unwrap_or r.target r.props) state

-- a token that is leaving is that of a row at DELETE
pub record IsSentAway (s : StateData) (t : Token) : Type 0 where
  pub row : Row
  pub found : row_at s.rows t.row ≡ Some row
  pub its : token_of row ≡ t
  pub act : row.act ≡ Delete

-- absent, or leaving
pub data IsGoing : TokenState → Type 0 where
  absent : IsGoing None
  leaves : (it : Living) → it.leaving ≡ true → IsGoing (Some it)

-- what a job that polls asked for
pub record PollFits (r : Row) (state : TokenState) : Type 0 where
  pub asked : r.act ≢ Delete → IsAliveAs r (unwrap_or r.target r.props) state
  pub going : r.act ≡ Delete → IsGoing state

-- what may be alive is named by stored rows, and fits them, their jobs, and what is leaving
pub record Agrees (o : Opening) (h : List Entry) (s : StateData) : Type 0 where
  pub named : IsNamed o h
  pub rows : (n : ℕ) (r : Row) (state : TokenState) → row_at s.rows n ≡ Some r
      → Contains (could_of o h (token_of r)) state → StateFits r state
  pub polled : (e : ℕ) (j : Job) (r : Row) (state : TokenState) → job_at s.jobs e ≡ Some j → j.stage ≡ Polling
      → row_at s.rows j.row ≡ Some r → Contains (could_of o h (token_of r)) state → PollFits r state
  pub leaving : (t : Token) (it : Living) → Contains (could_of o h t) (Some it) → it.leaving ≡ true → IsSentAway s t
