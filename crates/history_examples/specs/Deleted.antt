-- The delete goes on to its end: the overtaken job's late resource goes, then the one that it was to replace, then the
-- stack.
use Rattle.std.specs.Prelude.{List, None, Some, [], codes, true, ◌++◌, ◌∷◌, ◌≡◌}
use Rattle.heat_plan.specs.declared.phase.Act.TheVariants.{Delete}
use Rattle.heat_plan.specs.declared.phase.Status.TheVariants.{InProgress}
use Rattle.row_table.specs.declared.row.Row.{Row}
use Rattle.sync_points.specs.declared.point.Input.{Input}
use Rattle.sync_points.specs.declared.point.Point.{Point}
use Rattle.mail_table.specs.declared.mail.Job.{Job}
use Rattle.mail_table.specs.declared.mail.Stage.{Stage}
use Rattle.mail_table.specs.declared.mail.Stage.TheVariants.{Asking, Ending, Polling, Taken}
use Rattle.core_state.specs.State.{StateData}
use Rattle.core_state.specs.declared.entry.Actor.TheVariants.{Engine}
use Rattle.core_state.specs.declared.entry.Entry.{Entry}
use Rattle.core_state.specs.declared.entry.MailWrite.TheVariants.{Dropped, Ended, Held, Sent}
use Rattle.core_state.specs.declared.entry.RowWrite.TheVariants.{Purge, Set}
use Rattle.core_state.specs.declared.graph.Graph.{Graph}
use Rattle.step_relation.specs.Freshness.{plan_of}
use Rattle.step_relation.specs.Runs.{Run}
use Rattle.step_relation.specs.Could.{could_of}
use Rattle.step_relation.specs.Fits.{Fits}
use Rattle.step_relation.specs.Marked.{Completed, mark_of}
use Rattle.step_relation.specs.Stored.{stored}
use Rattle.step_relation.specs.Headline.{Headline}
use Rattle.history_examples.specs.Completed.{facts_two, row_made, row_old, row_ready}
use Rattle.history_examples.specs.DeletedHalfway.{deleting, two_rows}
use Rattle.history_examples.specs.Sentences.{CompleteFits, Completes}
use Rattle.history_examples.specs.Setting.{job, letter, mail_writes, opening, registries, row_writes, says, sized}
use Rattle.history_examples.specs.Setting.{stack_name, token}
use Rattle.history_examples.specs.Spoiled.{Spoiled}
use Rattle.history_examples.specs.Updates.{open_point}
use Rattle.heat_plan.specs.declared.calls.Answered.TheVariants as answer
use Rattle.heat_plan.specs.declared.calls.Request.TheVariants as request
use Rattle.core_state.specs.declared.entry.What.TheVariants as what
use Rattle.history_examples.specs.DeletedHalfway as before

-- the rows, taken and leaving
abbrev pub second_held : Row
second_held = record row_made { engine = Some 1; key = 3 }

-- the second row, to be deleted for the third traversal
abbrev pub second_leaves : Row
second_leaves = record second_held { act = Delete; status = InProgress; trav = 3 }

-- the first row, locked by the engine
abbrev pub first_held : Row
first_held = record row_old { engine = Some 1; key = 5 }

-- to be deleted for the third traversal
abbrev pub first_leaves : Row
first_leaves = record first_held { act = Delete; status = InProgress; trav = 3 }

-- the input that a clean-up node gives, and the points as the nodes are done
abbrev pub given : Input
given = record { from = 1; name = None; row = 2; facts = None }

-- that of the second row's node, which is done
abbrev pub second_done : Point
second_done = record (open_point 1) { done = true }

-- that of the first row's node, which has its input
abbrev pub first_ready : Point
first_ready = record (open_point 0) { inputs = given ∷ [] }

-- and which is done
abbrev pub first_done : Point
first_done = record first_ready { done = true }

-- the graph with the second row's node done, by the point of the first one's
abbrev pub graph : Point → Graph
graph first = record { stack = stack_name; graph = two_rows; points = first ∷ second_done ∷ [] }

-- the jobs: the overtaken one, that at the second row, and that at the first
abbrev pub late : Stage → Job
late stage = job 1 (letter 2 2 0) 2 stage

-- that at the second row
abbrev pub second : Stage → Job
second stage = job 1 (letter 3 3 1) 2 stage

-- that at the first row
abbrev pub first : Stage → Job
first stage = job 1 (letter 5 3 0) 1 stage

-- the states: the overtaken job asks, hears that it is ready, and is released
abbrev pub asked : StateData
asked = record deleting { jobs = late Polling ∷ [] }

-- the cloud said that the second resource is ready
abbrev pub ready : StateData
ready = record asked { rows = row_old ∷ row_ready ∷ []; jobs = late Ending ∷ [] }

-- the job is released, and the second row's clean-up node is told again
abbrev pub freed : StateData
freed = record ready {
  rows = row_old ∷ row_made ∷ [];
  letters = letter 3 3 1 ∷ letter 4 3 1 ∷ [];
  jobs = [];
  next = record { stack = 2; trav = 4; row = 3; engine = 3; letter = 5 };
}

-- the second row is taken, is to go, is leaving, and is gone
abbrev pub second_cleaning : StateData
second_cleaning = record freed {
  rows = row_old ∷ second_held ∷ [];
  letters = letter 4 3 1 ∷ [];
  jobs = second Taken ∷ [];
}

-- the second row is to be deleted
abbrev pub second_leaving : StateData
second_leaving = record second_cleaning { rows = row_old ∷ second_leaves ∷ []; jobs = second Asking ∷ [] }

-- the cloud was asked to delete its resource
abbrev pub second_going : StateData
second_going = record second_leaving { jobs = second Polling ∷ [] }

-- the cloud said that it is gone, and so is the row
abbrev pub second_gone : StateData
second_gone = record second_going { rows = row_old ∷ []; jobs = second Ending ∷ [] }

-- its node is done, and the letter that nobody has to work for goes
abbrev pub between : StateData
between = record second_gone {
  graphs = graph first_ready ∷ [];
  letters = letter 4 3 1 ∷ letter 5 3 0 ∷ [];
  jobs = [];
  next = record { stack = 2; trav = 4; row = 3; engine = 3; letter = 6 };
}

-- that letter is gone
abbrev pub dropped : StateData
dropped = record between { letters = letter 5 3 0 ∷ [] }

-- the first row is taken, is to go, is leaving, and is gone
abbrev pub first_cleaning : StateData
first_cleaning = record dropped { rows = first_held ∷ []; letters = []; jobs = first Taken ∷ [] }

-- the first row is to be deleted
abbrev pub first_leaving : StateData
first_leaving = record first_cleaning { rows = first_leaves ∷ []; jobs = first Asking ∷ [] }

-- the cloud was asked to delete its resource
abbrev pub first_going : StateData
first_going = record first_leaving { jobs = first Polling ∷ [] }

-- the cloud said that it is gone, and so is the row
abbrev pub first_gone : StateData
first_gone = record first_going { rows = []; jobs = first Ending ∷ [] }

-- and the stack goes
abbrev pub deleted : StateData
deleted = record first_gone { stacks = []; graphs = []; pasts = []; jobs = [] }

-- what each step tells
abbrev pub ask_tells : List Entry
ask_tells =
    says (Engine 1) (what.Call (token 2) (request.Create (codes "Box") (sized 2)) answer.Begun)
    ∷ mail_writes 1 (Held (late Polling) ∷ [])
    ∷ []

-- the poll of the overtaken job: the second resource is ready
abbrev pub ready_tells : List Entry
ready_tells =
    says (Engine 1) (what.Call (token 2) request.Poll (answer.Ready facts_two))
    ∷ row_writes 1 (Set row_ready ∷ [])
    ∷ mail_writes 1 (Held (late Ending) ∷ [])
    ∷ []

-- the release of that job: the row is unlocked, and its clean-up node gets another letter
abbrev pub release_tells : List Entry
release_tells = row_writes 1 (Set row_made ∷ []) ∷ mail_writes 1 (Ended 1 ∷ Sent (letter 4 3 1) ∷ []) ∷ []

-- the take of the second row's letter
abbrev pub second_takes : List Entry
second_takes = row_writes 1 (Set second_held ∷ []) ∷ mail_writes 1 (Dropped 3 ∷ Held (second Taken) ∷ []) ∷ []

-- the begin there: the row is to go
abbrev pub second_begins : List Entry
second_begins = row_writes 1 (Set second_leaves ∷ []) ∷ mail_writes 1 (Held (second Asking) ∷ []) ∷ []

-- the ask: the cloud is to delete its resource
abbrev pub second_asks : List Entry
second_asks =
    says (Engine 1) (what.Call (token 2) request.Delete answer.Begun) ∷ mail_writes 1 (Held (second Polling) ∷ []) ∷ []

-- the poll: it is gone, and its row with it
abbrev pub second_goes : List Entry
second_goes =
    says (Engine 1) (what.Call (token 2) request.Gone answer.Gone)
    ∷ row_writes 1 (Purge 2 ∷ [])
    ∷ mail_writes 1 (Held (second Ending) ∷ [])
    ∷ []

-- the finish there: the first row's node gets a letter
abbrev pub second_ends : List Entry
second_ends = mail_writes 1 (Ended 1 ∷ Sent (letter 5 3 0) ∷ []) ∷ []

-- the letter that nobody has to work for is dropped
abbrev pub drop_tells : List Entry
drop_tells = mail_writes 1 (Dropped 4 ∷ []) ∷ []

-- the take of the first row's letter
abbrev pub first_takes : List Entry
first_takes = row_writes 1 (Set first_held ∷ []) ∷ mail_writes 1 (Dropped 5 ∷ Held (first Taken) ∷ []) ∷ []

-- the begin there: the row is to go
abbrev pub first_begins : List Entry
first_begins = row_writes 1 (Set first_leaves ∷ []) ∷ mail_writes 1 (Held (first Asking) ∷ []) ∷ []

-- the ask: the cloud is to delete its resource
abbrev pub first_asks : List Entry
first_asks =
    says (Engine 1) (what.Call (token 1) request.Delete answer.Begun) ∷ mail_writes 1 (Held (first Polling) ∷ []) ∷ []

-- the poll: it is gone, and its row with it
abbrev pub first_goes : List Entry
first_goes =
    says (Engine 1) (what.Call (token 1) request.Gone answer.Gone)
    ∷ row_writes 1 (Purge 1 ∷ [])
    ∷ mail_writes 1 (Held (first Ending) ∷ [])
    ∷ []

-- the finish, and the mark behind it
abbrev pub complete_tells : List Entry
complete_tells = mail_writes 1 (Ended 1 ∷ []) ∷ says (Engine 1) (what.Mark stack_name 3 Delete None) ∷ []

-- the histories so far
abbrev pub until_asked : List Entry
until_asked = before.history ++ ask_tells

-- up to the poll that hears that the second resource is ready
abbrev pub until_ready : List Entry
until_ready = until_asked ++ ready_tells

-- up to the release of the overtaken job
abbrev pub until_freed : List Entry
until_freed = until_ready ++ release_tells

-- up to the poll that hears that the second resource is gone
abbrev pub until_second_gone : List Entry
until_second_gone = (((until_freed ++ second_takes) ++ second_begins) ++ second_asks) ++ second_goes

-- up to the letter that is dropped
abbrev pub until_dropped : List Entry
until_dropped = (until_second_gone ++ second_ends) ++ drop_tells

-- up to the poll that hears that the first resource is gone
abbrev pub until_first_gone : List Entry
until_first_gone = (((until_dropped ++ first_takes) ++ first_begins) ++ first_asks) ++ first_goes

-- up to the mark
abbrev pub history : List Entry
history = until_first_gone ++ complete_tells

-- nothing stands and nothing is alive
pub record IsDeleted : Type 0 where
  pub run : Run registries opening.state deleted history
  pub headline : Headline registries opening history deleted
  pub mark : mark_of opening history stack_name ≡ Some Completed
  pub fits : Fits opening history stack_name (plan_of None)
  pub first_absent : could_of opening history (token 1) ≡ None ∷ []
  pub second_absent : could_of opening history (token 2) ≡ None ∷ []
  pub rows : stored opening history ≡ []

-- spoiled: the delete is marked while a row stands, whose resource is alive
abbrev pub marked_while_a_row_stands : Spoiled
marked_while_a_row_stands = record {
  before = until_dropped;
  entry = says (Engine 1) (what.Mark stack_name 3 Delete None);
  broken = Completes ∷ CompleteFits ∷ [];
}
