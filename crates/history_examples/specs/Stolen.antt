-- An update overtakes a create, whose engine stops: another engine takes the update's letter, and the row with it.
use Rattle.std.specs.Prelude.{List, None, Some, [], false, ◌++◌, ◌∷◌, ◌≡◌}
use Rattle.heat_plan.specs.declared.phase.Act.TheVariants.{Update}
use Rattle.row_table.specs.declared.row.Row.{Row}
use Rattle.mail_table.specs.declared.mail.Stage.TheVariants.{Taken}
use Rattle.core_state.specs.State.{StateData}
use Rattle.core_state.specs.declared.entry.Actor.TheVariants.{Engine}
use Rattle.core_state.specs.declared.entry.Entry.{Entry}
use Rattle.core_state.specs.declared.entry.MailWrite.TheVariants.{Dropped, Ended, Held}
use Rattle.core_state.specs.declared.entry.RowWrite.TheVariants.{Set}
use Rattle.step_relation.specs.Runs.{Run}
use Rattle.step_relation.specs.Could.{could_of}
use Rattle.step_relation.specs.Marked.{Unmarked, mark_of}
use Rattle.step_relation.specs.Newest.{newest}
use Rattle.step_relation.specs.Stored.{stored}
use Rattle.step_relation.specs.Headline.{Headline}
use Rattle.history_examples.specs.Created.{until_asked}
use Rattle.history_examples.specs.FirstRow.{row_begun}
use Rattle.history_examples.specs.Overtaken.{overtaken}
use Rattle.history_examples.specs.Sentences.{CompleteFits, Completes}
use Rattle.history_examples.specs.Setting.{job, letter, living, mail_writes, opening, plan, registries, row_writes}
use Rattle.history_examples.specs.Setting.{says}
use Rattle.history_examples.specs.Setting.{stack_name, token}
use Rattle.history_examples.specs.Spoiled.{Spoiled}
use Rattle.history_examples.specs.TakenOver.{stop_tells}
use Rattle.history_examples.specs.Updates.{update_tells}
use Rattle.core_state.specs.declared.entry.What.TheVariants as what

-- the row is the second engine's; no unlock stood between, so that its key is one more
abbrev pub row_stolen : Row
row_stolen = record row_begun { engine = Some 2; key = 2 }

-- the first engine stops, and its job ends as the second takes the letter
abbrev pub left : StateData
left = record overtaken { live = 2 ∷ [] }

-- the second engine has the letter's job, and the row with it
abbrev pub stolen : StateData
stolen = record left { rows = row_stolen ∷ []; letters = []; jobs = job 2 (letter 2 2 0) 1 Taken ∷ [] }

-- what the steal tells: the row, the letter, the end of the first engine's job, the second one's job
abbrev pub steal_tells : List Entry
steal_tells =
    row_writes 2 (Set row_stolen ∷ [])
    ∷ mail_writes 2 (Dropped 2 ∷ Ended 1 ∷ Held (job 2 (letter 2 2 0) 1 Taken) ∷ [])
    ∷ []

-- the histories so far: up to the stop of the first engine
abbrev pub until_left : List Entry
until_left = (until_asked false ++ update_tells 2) ++ stop_tells

-- up to the steal
abbrev pub history : List Entry
history = until_left ++ steal_tells

-- the update goes on; what is alive is still what the create asked for
pub record IsStolen : Type 0 where
  pub run : Run registries opening.state stolen history
  pub headline : Headline registries opening history stolen
  pub traversal : newest opening history stack_name ≡ Some (record { trav = 2; act = Update; plan = Some (plan 2) })
  pub mark : mark_of opening history stack_name ≡ Some Unmarked
  pub alive : could_of opening history (token 1) ≡ Some (living 1 None) ∷ []
  pub rows : stored opening history ≡ row_stolen ∷ []

-- spoiled: the second engine marks the update complete at the steal
abbrev pub marked_at_the_steal : Spoiled
marked_at_the_steal = record {
  before = history;
  entry = says (Engine 2) (what.Mark stack_name 2 Update None);
  broken = Completes ∷ CompleteFits ∷ [];
}
