-- What the taking of a letter changes.
use Rattle.std.specs.Prelude.{List, Option, option_map, [], ℕ, ◌++◌, ◌∷◌}
use Rattle.row_table.specs.declared.row.Row.{Row}
use Rattle.mail_table.specs.declared.mail.Letter.{Letter}
use Rattle.mail_table.specs.declared.mail.Stage.TheVariants.{Taken}
use Rattle.core_state.specs.declared.change.Change.{Change}
use Rattle.core_state.specs.declared.change.Change.TheVariants.{Drop, EndJob, PutJob}
use Rattle.core_state.specs.declared.entry.Actor.TheVariants.{Engine}
use Rattle.core_state.specs.declared.entry.Entry.{Entry}
use Rattle.core_state.specs.declared.entry.MailWrite.TheVariants.{Dropped, Ended, Held}
use Rattle.step_reads.specs.declared.work.Meant.{Meant}
use Rattle.step_relation.specs.Writes.{job_of, lock, lock_writes, mail_entry, rows_entry}

-- the row of a letter's work, if it stands
abbrev pub its_row : Meant → Option Row
its_row meant = option_map (λ r. r.now) meant.row

-- the letter goes
abbrev pub dropped_changes : Letter → List Change
dropped_changes l = Drop l.no ∷ []

abbrev pub dropped_entries : ℕ → Letter → List Entry
dropped_entries e l = mail_entry (Engine e) (Dropped l.no ∷ [])

-- the row is locked, if it stands, and a job begins with the letter
abbrev pub held_changes : ℕ → Letter → ℕ → Option Row → List Change
held_changes e l target row = lock row e (Drop l.no ∷ PutJob (job_of e l target Taken) ∷ [])

abbrev pub held_entries : ℕ → Letter → ℕ → Option Row → List Entry
held_entries e l target row =
    rows_entry (Engine e) (lock_writes row e) ++ mail_entry (Engine e)
    (Dropped l.no ∷ Held (job_of e l target Taken) ∷ [])

-- the same, and the job that the engine f had ends
abbrev pub stolen_changes : ℕ → Letter → ℕ → Option Row → ℕ → List Change
stolen_changes e l target row f = lock row e (Drop l.no ∷ EndJob f ∷ PutJob (job_of e l target Taken) ∷ [])

abbrev pub stolen_entries : ℕ → Letter → ℕ → Option Row → ℕ → List Entry
stolen_entries e l target row f =
    rows_entry (Engine e) (lock_writes row e)
    ++ mail_entry (Engine e) (Dropped l.no ∷ Ended f ∷ Held (job_of e l target Taken) ∷ [])
