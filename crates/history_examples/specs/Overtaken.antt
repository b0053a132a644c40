-- An update overtakes the create between ask and poll: the old job goes on to its end, and is released.
use Rattle.std.specs.Prelude.{List, None, Some, [], false, ◌++◌, ◌∷◌, ◌≡◌}
use Rattle.heat_plan.specs.declared.phase.Act.TheVariants.{Create, Update}
use Rattle.mail_table.specs.declared.mail.Stage.TheVariants.{Ending, Polling}
use Rattle.core_state.specs.State.{StateData}
use Rattle.core_state.specs.declared.entry.Actor.TheVariants.{Engine}
use Rattle.core_state.specs.declared.entry.Entry.{Entry}
use Rattle.core_state.specs.declared.entry.MailWrite.TheVariants.{Ended, Sent}
use Rattle.core_state.specs.declared.entry.RowWrite.TheVariants.{Set}
use Rattle.step_relation.specs.Runs.{Run}
use Rattle.step_relation.specs.Could.{could_of}
use Rattle.step_relation.specs.Marked.{Unmarked, mark_of}
use Rattle.step_relation.specs.Newest.{newest}
use Rattle.step_relation.specs.Stored.{stored}
use Rattle.step_relation.specs.Headline.{Headline}
use Rattle.step_relation.specs.Stir.{EachStirs}
use Rattle.history_examples.specs.Created.{poll_tells, until_asked}
use Rattle.history_examples.specs.FirstRow.{row_begun, row_done, row_ready}
use Rattle.history_examples.specs.Sentences.{Completes, Marks}
use Rattle.history_examples.specs.Setting.{facts, job, letter, living, mail_writes, opening, plan, registries}
use Rattle.history_examples.specs.Setting.{row_writes}
use Rattle.history_examples.specs.Setting.{says, stack_name, token}
use Rattle.history_examples.specs.Spoiled.{Spoiled}
use Rattle.history_examples.specs.Updates.{update_tells, updated}
use Rattle.core_state.specs.declared.entry.What.TheVariants as what

-- the states: the job of the first traversal still polls, then has come to its end, then is released
abbrev pub overtaken : StateData
overtaken = updated 2 None row_begun (job 1 (letter 1 1 0) 1 Polling ∷ [])

-- the old job has come to its end
abbrev pub late : StateData
late = updated 2 None row_ready (job 1 (letter 1 1 0) 1 Ending ∷ [])

-- it is released, and the update node has a second letter
abbrev pub freed : StateData
freed = record (updated 2 None row_done []) {
  letters = letter 2 2 0 ∷ letter 3 2 0 ∷ [];
  next = record { stack = 2; trav = 3; row = 2; engine = 3; letter = 4 };
}

-- the row is unlocked, the job ends, and the update node of the new traversal is told again
abbrev pub release_tells : List Entry
release_tells = row_writes 1 (Set row_done ∷ []) ∷ mail_writes 1 (Ended 1 ∷ Sent (letter 3 2 0) ∷ []) ∷ []

-- the histories so far: up to the poll of the old job that hears that the resource is ready
abbrev pub until_late : List Entry
until_late = (until_asked false ++ update_tells 2) ++ poll_tells

-- up to the release
abbrev pub history : List Entry
history = until_late ++ release_tells

-- the newest traversal has no mark and stirs; what is alive is still what the old one asked for
pub record IsOvertaken : Type 0 where
  pub run : Run registries opening.state freed history
  pub headline : Headline registries opening history freed
  pub traversal : newest opening history stack_name ≡ Some (record { trav = 2; act = Update; plan = Some (plan 2) })
  pub mark : mark_of opening history stack_name ≡ Some Unmarked
  pub stirs : EachStirs freed
  pub alive : could_of opening history (token 1) ≡ Some (living 1 (Some facts)) ∷ []
  pub rows : stored opening history ≡ row_done ∷ []

-- spoiled: the old traversal is marked complete, though it isn't the newest
abbrev pub marked_though_overtaken : Spoiled
marked_though_overtaken = record {
  before = until_late;
  entry = says (Engine 1) (what.Mark stack_name 1 Create None);
  broken = Marks ∷ Completes ∷ [];
}
