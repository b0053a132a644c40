-- The taking of a letter, and a job that is released or taken over.
use Rattle.std.specs.Prelude.{Contains, List, Option, Some, map, ℕ, ◌++◌, ◌∷◌, ◌≡◌, ◌≢◌, ◌≤◌}
use Rattle.row_table.specs.Rows.{row_at}
use Rattle.row_table.specs.declared.row.Row.{Row}
use Rattle.mail_table.specs.Mails.{job_at}
use Rattle.mail_table.specs.declared.mail.Job.{Job}
use Rattle.mail_table.specs.declared.mail.Letter.{Letter}
use Rattle.mail_table.specs.declared.mail.Stage.TheVariants.{Taken}
use Rattle.core_state.specs.Reads.{IsDone}
use Rattle.core_state.specs.State.{StateData}
use Rattle.core_state.specs.declared.change.Change.{Change}
use Rattle.core_state.specs.declared.change.Change.TheVariants.{EndJob, Send}
use Rattle.core_state.specs.declared.entry.Actor.TheVariants.{Engine}
use Rattle.core_state.specs.declared.entry.Entry.{Entry}
use Rattle.core_state.specs.declared.entry.MailWrite.TheVariants.{Ended, Sent}
use Rattle.step_relation.specs.Freshness.{IsFresh, IsMeant, IsOutdated, IsOverrun}
use Rattle.step_relation.specs.Nexts.{TakesNext, TakesOver}
use Rattle.step_relation.specs.Resends.{Resends}
use Rattle.step_relation.specs.Writes.{draw_letters, job_of, letter_to, mail_entry, rows_entry, unlock, unlock_writes}

-- a letter that has work, at a node that isn't done
pub record Takes (s : StateData) (e : ℕ) : Type 0 where
  pub letter : Letter
  pub next : TakesNext s e letter
  pub meant : IsMeant s letter
  pub open_ : ¬ IsDone meant.fresh.graph letter.node

-- the job that begins
abbrev pub taken_job : (s : StateData) (e : ℕ) → Takes s e → Job
taken_job s e k = job_of e k.letter k.meant.target Taken

-- no engine has a job with this row
abbrev pub HasNoHolder : List Job → ℕ → Type 0
HasNoHolder jobs n = (f : ℕ) (j : Job) → job_at jobs f ≡ Some j → j.row ≢ n

-- the engine has a job with this row; of several the lowest
pub record IsHolder (jobs : List Job) (n f : ℕ) (j : Job) : Type 0 where
  pub its : job_at jobs f ≡ Some j
  pub has : j.row ≡ n
  pub lowest : (g : ℕ) (k : Job) → job_at jobs g ≡ Some k → k.row ≡ n → f ≤ g

-- a letter goes that nobody has to work for: it is outdated, its node is done, or a live engine has the row
pub data IsIdleLetter (s : StateData) (l : Letter) : Type 0 where
  outdated : IsOutdated s l → IsIdleLetter s l
  done : (k : IsMeant s l) → IsDone k.fresh.graph l.node → IsIdleLetter s l
  held : (k : IsMeant s l) (f : ℕ) (j : Job) → IsHolder s.jobs k.target f j → Contains s.live f → IsIdleLetter s l

-- the job of the engine f is released: it ends, its row is unlocked, and whom the row kept waiting is told
abbrev pub released_changes : StateData → ℕ → Option Row → List Letter → List Change
released_changes s f row letters = draw_letters s.next letters (unlock row (EndJob f ∷ map Send letters))

-- what is told of it by the engine e: the row, and then the job's end and the letters
abbrev pub released_entries : ℕ → ℕ → Option Row → List Letter → List Entry
released_entries e f row letters =
    rows_entry (Engine e) (unlock_writes row) ++ mail_entry (Engine e) (Ended f ∷ map Sent letters)

-- a job that is overrun, of the engine itself or of a stopped one, and what its release brings
pub record Releases (s : StateData) (f : ℕ) (j : Job) : Type 0 where
  pub row : Option Row
  pub found : row_at s.rows j.row ≡ row
  pub overrun : IsOverrun s j
  pub letters : List Letter
  pub resends : Resends s j.letter.stack j.row letters

-- a stopped engine's job that has work: it ends, and a letter for its node is sent
pub record Relays (s : StateData) (e f : ℕ) : Type 0 where
  pub job : Job
  pub next : TakesOver s e f job
  pub fresh : IsFresh s job.letter job.row

-- the letter for the job's node
abbrev pub relayed_letter : (s : StateData) (e f : ℕ) → Relays s e f → Letter
relayed_letter s e f k = letter_to k.fresh.stack s.next.letter k.job.letter.node
