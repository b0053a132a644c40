-- An engine stops while it polls: another one takes its job over, and goes on with the row.
use Rattle.std.specs.Prelude.{List, None, Some, [], false, ◌++◌, ◌∷◌, ◌≡◌}
use Rattle.row_table.specs.declared.row.Row.{Row}
use Rattle.mail_table.specs.declared.mail.Stage.TheVariants.{Asking, Taken}
use Rattle.core_state.specs.State.{StateData}
use Rattle.core_state.specs.declared.entry.Actor.TheVariants.{Main}
use Rattle.core_state.specs.declared.entry.Entry.{Entry}
use Rattle.core_state.specs.declared.entry.MailWrite.TheVariants.{Dropped, Ended, Held, Sent}
use Rattle.core_state.specs.declared.entry.RowWrite.TheVariants.{Purge, Set}
use Rattle.step_relation.specs.Runs.{Run}
use Rattle.step_relation.specs.Could.{could_of}
use Rattle.step_relation.specs.Marked.{Unmarked, mark_of}
use Rattle.step_relation.specs.Stored.{stored}
use Rattle.step_relation.specs.Headline.{Headline}
use Rattle.history_examples.specs.Created.{asked, until_asked}
use Rattle.history_examples.specs.FirstRow.{row_begun}
use Rattle.history_examples.specs.Sentences.{Named}
use Rattle.history_examples.specs.Setting.{job, letter, living, mail_writes, opening, registries, row_writes, says}
use Rattle.history_examples.specs.Setting.{stack_name, token}
use Rattle.history_examples.specs.Spoiled.{Spoiled}
use Rattle.core_state.specs.declared.entry.EngineChange.TheVariants as engine
use Rattle.core_state.specs.declared.entry.What.TheVariants as what

-- the row unlocked, and locked by the second engine
abbrev pub row_free : Row
row_free = record row_begun { engine = None; key = 2 }

-- the row that the second engine has locked again
abbrev pub row_kept : Row
row_kept = record row_begun { engine = Some 2; key = 3 }

-- the states: the first engine stops, its job ends, the second takes the letter, and asks again
abbrev pub stopped : StateData
stopped = record (asked false) { live = 2 ∷ [] }

-- the first engine's job has ended, and a letter for its node waits
abbrev pub relayed : StateData
relayed = record stopped {
  rows = row_free ∷ [];
  letters = letter 2 1 0 ∷ [];
  jobs = [];
  next = record { stack = 2; trav = 2; row = 2; engine = 3; letter = 3 };
}

-- the second engine has taken that letter
abbrev pub kept : StateData
kept = record relayed { rows = row_kept ∷ []; letters = []; jobs = job 2 (letter 2 1 0) 1 Taken ∷ [] }

-- it goes on with the row, and is to ask again
abbrev pub resumed : StateData
resumed = record kept { jobs = job 2 (letter 2 1 0) 1 Asking ∷ [] }

-- what each step tells: the stop of the first engine
abbrev pub stop_tells : List Entry
stop_tells = says Main (what.Engine (engine.Stop 1)) ∷ []

-- the second engine ends the first one's job, and sends the letter
abbrev pub relay_tells : List Entry
relay_tells = row_writes 2 (Set row_free ∷ []) ∷ mail_writes 2 (Ended 1 ∷ Sent (letter 2 1 0) ∷ []) ∷ []

-- the take of that letter
abbrev pub keep_tells : List Entry
keep_tells =
    row_writes 2 (Set row_kept ∷ [])
    ∷ mail_writes 2 (Dropped 2 ∷ Held (job 2 (letter 2 1 0) 1 Taken) ∷ [])
    ∷ []

-- the begin, which goes on with the row as it is
abbrev pub resume_tells : List Entry
resume_tells = mail_writes 2 (Held (job 2 (letter 2 1 0) 1 Asking) ∷ []) ∷ []

-- the histories so far: up to the stop
abbrev pub until_stopped : List Entry
until_stopped = until_asked false ++ stop_tells

-- up to the end of the first engine's job
abbrev pub until_relayed : List Entry
until_relayed = until_stopped ++ relay_tells

-- up to the take
abbrev pub until_kept : List Entry
until_kept = until_relayed ++ keep_tells

-- up to the begin
abbrev pub history : List Entry
history = until_kept ++ resume_tells

-- the traversal goes on, and the one row is still that of what may be alive
pub record IsTakenOver : Type 0 where
  pub run : Run registries opening.state resumed history
  pub headline : Headline registries opening history resumed
  pub mark : mark_of opening history stack_name ≡ Some Unmarked
  pub alive : could_of opening history (token 1) ≡ Some (living 1 None) ∷ []
  pub rows : stored opening history ≡ row_kept ∷ []

-- spoiled: the stopped engine's row is purged, though its resource is alive
abbrev pub purged_at_the_take_over : Spoiled
purged_at_the_take_over = record {
  before = until_stopped;
  entry = row_writes 2 (Purge 1 ∷ []);
  broken = Named ∷ [];
}
