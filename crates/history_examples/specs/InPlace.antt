-- An update changes the created resource in place: a judge of the registry says that its kind's size may be changed so.
use Rattle.std.specs.Prelude.{List, None, Some, [], codes, ◌++◌, ◌∷◌, ◌≡◌}
use Rattle.heat_value.specs.Data.{no_members}
use Rattle.heat_plan.specs.declared.facts.Facts.{Facts}
use Rattle.heat_plan.specs.declared.phase.Act.TheVariants.{Update}
use Rattle.heat_plan.specs.declared.phase.Status.TheVariants.{Complete, InProgress}
use Rattle.row_table.specs.declared.row.Row.{Row}
use Rattle.mail_table.specs.declared.mail.Job.{Job}
use Rattle.mail_table.specs.declared.mail.Stage.{Stage}
use Rattle.mail_table.specs.declared.mail.Stage.TheVariants.{Asking, Ending, Polling}
use Rattle.core_state.specs.State.{StateData}
use Rattle.core_state.specs.declared.entry.Actor.TheVariants.{Engine}
use Rattle.core_state.specs.declared.entry.Entry.{Entry}
use Rattle.core_state.specs.declared.entry.MailWrite.TheVariants.{Held}
use Rattle.core_state.specs.declared.entry.RowWrite.TheVariants.{Set}
use Rattle.step_relation.specs.Runs.{Judges, Run}
use Rattle.step_relation.specs.Unjudged.{unjudged}
use Rattle.step_relation.specs.Could.{could_of}
use Rattle.step_relation.specs.Marked.{Unmarked, mark_of}
use Rattle.step_relation.specs.Stored.{stored}
use Rattle.step_relation.specs.Headline.{Headline}
use Rattle.history_examples.specs.FirstRow.{row_done}
use Rattle.history_examples.specs.Sentences.{Rows}
use Rattle.history_examples.specs.Setting.{job, letter, living, mail_writes, opening, plan, row_writes, says, sized}
use Rattle.history_examples.specs.Setting.{stack_name, token}
use Rattle.history_examples.specs.Spoiled.{Spoiled}
use Rattle.history_examples.specs.Updates.{again, retake_tells, retaken, update_tells}
use Rattle.core_state.specs.declared.entry.What.TheVariants as what
use Rattle.heat_plan.specs.declared.calls.Answered.TheVariants as answer
use Rattle.heat_plan.specs.declared.calls.Request.TheVariants as request
use Rattle.history_examples.specs.Created as create

-- of every kind the size changes in place; the create was judged by nobody
abbrev pub judged : Judges
judged name = Some (codes "size" ∷ [])

-- two registries: one without a judge, and one with this judge
abbrev pub two_registries : List Judges
two_registries = unjudged ∷ judged ∷ []

-- what the cloud tells once the update is ready
abbrev pub facts_now : Facts
facts_now = record { id = codes "sim-1"; attrs = no_members }

-- the row is to be updated, and is updated
abbrev pub row_updating : Row
row_updating = record (again row_done) { act = Update; status = InProgress; target = Some (sized 2); trav = 2 }

-- the row with the new size, and what the cloud tells of it
abbrev pub row_updated : Row
row_updated = record row_updating { status = Complete; props = sized 2; target = None; facts = Some facts_now }

-- the job at the row that stays
abbrev pub works : Stage → Job
works stage = job 1 (letter 2 2 0) 1 stage

-- the states: the row is to be updated
abbrev pub begun : StateData
begun = record (retaken 2 (Some (plan 1)) row_done) { rows = row_updating ∷ []; jobs = works Asking ∷ [] }

-- the cloud was asked to update the resource
abbrev pub asked : StateData
asked = record begun { jobs = works Polling ∷ [] }

-- the cloud said that it is ready
abbrev pub ready : StateData
ready = record asked { rows = row_updated ∷ []; jobs = works Ending ∷ [] }

-- what each step tells: the begin, by which the row is to be updated
abbrev pub begin_tells : List Entry
begin_tells = row_writes 1 (Set row_updating ∷ []) ∷ mail_writes 1 (Held (works Asking) ∷ []) ∷ []

-- the ask: the cloud is to update the resource
abbrev pub ask_tells : List Entry
ask_tells =
    says (Engine 1) (what.Call (token 1) (request.Update (sized 2)) answer.Begun)
    ∷ mail_writes 1 (Held (works Polling) ∷ [])
    ∷ []

-- the poll: it is ready
abbrev pub poll_tells : List Entry
poll_tells =
    says (Engine 1) (what.Call (token 1) request.Poll (answer.Ready facts_now))
    ∷ row_writes 1 (Set row_updated ∷ [])
    ∷ mail_writes 1 (Held (works Ending) ∷ [])
    ∷ []

-- the histories so far: a create, the update's command, and the take of its letter
abbrev pub until_retaken : List Entry
until_retaken = (create.history ++ update_tells 2) ++ retake_tells row_done

-- up to the begin
abbrev pub until_begun : List Entry
until_begun = until_retaken ++ begin_tells

-- up to the ask
abbrev pub until_asked : List Entry
until_asked = until_begun ++ ask_tells

-- up to the poll that hears that it is ready
abbrev pub history : List Entry
history = until_asked ++ poll_tells

-- one row stands and one resource is alive, of the new size
pub record IsUpdatedInPlace : Type 0 where
  pub run : Run two_registries opening.state ready history
  pub headline : Headline two_registries opening history ready
  pub mark : mark_of opening history stack_name ≡ Some Unmarked
  pub alive : could_of opening history (token 1) ≡ Some (living 2 (Some facts_now)) ∷ []
  pub rows : stored opening history ≡ row_updated ∷ []

-- spoiled: the row is written as updated without asking the cloud
abbrev pub updated_without_asking : Spoiled
updated_without_asking = record {
  before = until_begun;
  entry = row_writes 1 (Set row_updated ∷ []);
  broken = Rows ∷ [];
}
