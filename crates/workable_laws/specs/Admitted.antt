-- An image that a book is opened with: tied up in itself, and not at odds with the cloud's list.
use Rattle.std.specs.Prelude.{Contains, None, ℕ, ◌≡◌}
use Rattle.mail_table.specs.Mails.{job_at}
use Rattle.core_state.specs.Changes.{applied}
use Rattle.core_state.specs.State.{StateData}
use Rattle.step_relation.specs.Steps.{restart_changes}
use Rattle.step_relation.specs.Opening.{Opening}
pub use Rattle.step_relation.specs.Compared.{FindsNothing, IsExpected, IsKnown, IsListed, IsListedReady}
pub use Rattle.step_relation.specs.Images.{IsRead, IsTied}

-- no live engine has a job
abbrev pub IsStill : StateData → Type 0
IsStill s = (e : ℕ) → Contains s.live e → job_at s.jobs e ≡ None

-- an image that an opening admits, whatever its engines do
pub record IsAdmitted (o : Opening) : Type 0 where
  pub read : IsRead o.state
  pub tied : IsTied o.state
  pub compared : FindsNothing o

-- what a book begins with where it is opened with an image: its engines are stopped, and so many are enlisted
abbrev pub restarted : Opening → ℕ → Opening
restarted o count = record o { state = applied (restart_changes o.state count) o.state }
