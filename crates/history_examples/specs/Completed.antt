-- The update that overtook goes on to its end: the new row is made, the old one is cleaned up, and only then the mark
-- comes.
use Rattle.std.specs.Prelude.{List, None, Some, [], codes, true, ℕ, ◌++◌, ◌∷◌, ◌≡◌}
use Rattle.heat_value.specs.Data.{no_members}
use Rattle.heat_plan.specs.declared.facts.Facts.{Facts}
use Rattle.heat_plan.specs.declared.phase.Act.TheVariants.{Delete, Update}
use Rattle.heat_plan.specs.declared.phase.Status.TheVariants.{Complete, InProgress}
use Rattle.row_table.specs.declared.row.Row.{Row}
use Rattle.sync_points.specs.declared.point.Input.{Input}
use Rattle.sync_points.specs.declared.point.Point.{Point}
use Rattle.mail_table.specs.declared.mail.Job.{Job}
use Rattle.mail_table.specs.declared.mail.Stage.{Stage}
use Rattle.mail_table.specs.declared.mail.Stage.TheVariants.{Asking, Ending, Polling, Taken}
use Rattle.core_state.specs.State.{StateData}
use Rattle.core_state.specs.declared.entry.Actor.TheVariants.{Engine}
use Rattle.core_state.specs.declared.entry.Entry.{Entry}
use Rattle.core_state.specs.declared.entry.MailWrite.TheVariants.{Dropped, Ended, Held, Sent}
use Rattle.core_state.specs.declared.entry.RowWrite.TheVariants.{Purge, Set}
use Rattle.core_state.specs.declared.graph.Graph.{Graph}
use Rattle.step_relation.specs.Runs.{Run}
use Rattle.step_relation.specs.Could.{could_of}
use Rattle.step_relation.specs.Fits.{Fits}
use Rattle.step_relation.specs.Marked.{Completed, mark_of}
use Rattle.step_relation.specs.Stored.{stored}
use Rattle.step_relation.specs.Headline.{Headline}
use Rattle.history_examples.specs.FirstRow.{row_done}
use Rattle.history_examples.specs.Overtaken.{freed}
use Rattle.history_examples.specs.Sentences.{CompleteFits, Completes}
use Rattle.history_examples.specs.Setting.{item_name, job, letter, living, mail_writes, opening, plan, registries}
use Rattle.history_examples.specs.Setting.{row_writes, says, sized, stack_name, token}
use Rattle.history_examples.specs.Spoiled.{Spoiled}
use Rattle.history_examples.specs.Updates.{again, left, open_point, replace_tells, retake_tells, row_two, stack_two}
use Rattle.history_examples.specs.Updates.{two_nodes}
use Rattle.heat_plan.specs.declared.calls.Answered.TheVariants as answer
use Rattle.heat_plan.specs.declared.calls.Request.TheVariants as request
use Rattle.core_state.specs.declared.entry.What.TheVariants as what
use Rattle.history_examples.specs.Overtaken as before

-- what the cloud tells of the second resource
abbrev pub facts_two : Facts
facts_two = record { id = codes "sim-2"; attrs = no_members }

-- the second row, ready and unlocked; the first one, taken and leaving
abbrev pub row_ready : Row
row_ready = record (row_two 2) { status = Complete; facts = Some facts_two }

-- unlocked, with what it made
abbrev pub row_made : Row
row_made = record row_ready { engine = None; key = 2 }

-- the first row, replaced by the second
abbrev pub row_old : Row
row_old = left row_done

-- locked by the engine for its clean-up
abbrev pub row_held : Row
row_held = record row_old { engine = Some 1; key = 5 }

-- to be deleted, for the second traversal
abbrev pub row_leaving : Row
row_leaving = record row_held { act = Delete; status = InProgress; trav = 2 }

-- the input that the update node gives, and the points as the nodes are done
abbrev pub given : Input
given = record { from = 0; name = Some item_name; row = 2; facts = Some facts_two }

-- that of the update node, which is done
abbrev pub first_done : Point
first_done = record (open_point 0) { done = true }

-- that of the clean-up node, which has its input
abbrev pub second_ready : Point
second_ready = record (open_point 1) { inputs = given ∷ [] }

-- and which is done
abbrev pub second_done : Point
second_done = record second_ready { done = true }

-- the graph with the update node done, by the clean-up node's point
abbrev pub graph : Point → Graph
graph second = record { stack = stack_name; graph = two_nodes; points = first_done ∷ second ∷ [] }

-- the jobs at the update node, and at the clean-up node
abbrev pub updates : ℕ → Stage → Job
updates row stage = job 1 (letter 2 2 0) row stage

-- that at the clean-up node, which has the first row
abbrev pub cleans : Stage → Job
cleans stage = job 1 (letter 4 2 1) 1 stage

-- the states: the first of two letters is taken, and the row is replaced
abbrev pub held : StateData
held = record freed { rows = again row_done ∷ []; letters = letter 3 2 0 ∷ []; jobs = updates 1 Taken ∷ [] }

-- the second row stands, and the job goes on with it
abbrev pub moved : StateData
moved = record held {
  rows = row_old ∷ row_two 2 ∷ [];
  jobs = updates 2 Asking ∷ [];
  next = record { stack = 2; trav = 3; row = 3; engine = 3; letter = 4 };
}

-- the cloud was asked for the second resource
abbrev pub asked : StateData
asked = record moved { jobs = updates 2 Polling ∷ [] }

-- the cloud said that it is ready
abbrev pub ready : StateData
ready = record asked { rows = row_old ∷ row_ready ∷ []; jobs = updates 2 Ending ∷ [] }

-- the update node is done: a letter for the clean-up node waits behind one that nobody has to work for
abbrev pub made : StateData
made = record ready {
  graphs = graph second_ready ∷ [];
  rows = row_old ∷ row_made ∷ [];
  letters = letter 3 2 0 ∷ letter 4 2 1 ∷ [];
  jobs = [];
  next = record { stack = 2; trav = 3; row = 3; engine = 3; letter = 5 };
}

-- the letter that nobody has to work for is gone
abbrev pub dropped : StateData
dropped = record made { letters = letter 4 2 1 ∷ [] }

-- the first row is taken, is to go, is leaving, and is gone
abbrev pub cleaning : StateData
cleaning = record dropped { rows = row_held ∷ row_made ∷ []; letters = []; jobs = cleans Taken ∷ [] }

-- the first row is to be deleted
abbrev pub leaving : StateData
leaving = record cleaning { rows = row_leaving ∷ row_made ∷ []; jobs = cleans Asking ∷ [] }

-- the cloud was asked to delete its resource
abbrev pub going : StateData
going = record leaving { jobs = cleans Polling ∷ [] }

-- the cloud said that it is gone, and so is the row
abbrev pub gone : StateData
gone = record going { rows = row_made ∷ []; jobs = cleans Ending ∷ [] }

-- the clean-up node is done, and the update has its mark
abbrev pub completed : StateData
completed = record gone { stacks = stack_two 2 Complete ∷ []; graphs = graph second_done ∷ []; jobs = [] }

-- what each step tells
abbrev pub ask_tells : List Entry
ask_tells =
    says (Engine 1) (what.Call (token 2) (request.Create (codes "Box") (sized 2)) answer.Begun)
    ∷ mail_writes 1 (Held (updates 2 Polling) ∷ [])
    ∷ []

-- the poll: the second resource is ready
abbrev pub ready_tells : List Entry
ready_tells =
    says (Engine 1) (what.Call (token 2) request.Poll (answer.Ready facts_two))
    ∷ row_writes 1 (Set row_ready ∷ [])
    ∷ mail_writes 1 (Held (updates 2 Ending) ∷ [])
    ∷ []

-- the finish of the update node: the row is unlocked, and the clean-up node gets a letter
abbrev pub made_tells : List Entry
made_tells = row_writes 1 (Set row_made ∷ []) ∷ mail_writes 1 (Ended 1 ∷ Sent (letter 4 2 1) ∷ []) ∷ []

-- the letter that nobody has to work for is dropped
abbrev pub drop_tells : List Entry
drop_tells = mail_writes 1 (Dropped 3 ∷ []) ∷ []

-- the take of the clean-up node's letter
abbrev pub clean_tells : List Entry
clean_tells = row_writes 1 (Set row_held ∷ []) ∷ mail_writes 1 (Dropped 4 ∷ Held (cleans Taken) ∷ []) ∷ []

-- the begin there: the first row is to go
abbrev pub leave_tells : List Entry
leave_tells = row_writes 1 (Set row_leaving ∷ []) ∷ mail_writes 1 (Held (cleans Asking) ∷ []) ∷ []

-- the ask: the cloud is to delete the first resource
abbrev pub going_tells : List Entry
going_tells =
    says (Engine 1) (what.Call (token 1) request.Delete answer.Begun) ∷ mail_writes 1 (Held (cleans Polling) ∷ []) ∷ []

-- the poll: it is gone, and its row with it
abbrev pub gone_tells : List Entry
gone_tells =
    says (Engine 1) (what.Call (token 1) request.Gone answer.Gone)
    ∷ row_writes 1 (Purge 1 ∷ [])
    ∷ mail_writes 1 (Held (cleans Ending) ∷ [])
    ∷ []

-- the finish, and the mark behind it
abbrev pub complete_tells : List Entry
complete_tells = mail_writes 1 (Ended 1 ∷ []) ∷ says (Engine 1) (what.Mark stack_name 2 Update None) ∷ []

-- the histories so far
abbrev pub until_held : List Entry
until_held = before.history ++ retake_tells row_done

-- up to the replacement
abbrev pub until_moved : List Entry
until_moved = until_held ++ replace_tells 2 row_done

-- up to the ask for the second resource
abbrev pub until_asked : List Entry
until_asked = until_moved ++ ask_tells

-- up to the poll that hears that it is ready
abbrev pub until_ready : List Entry
until_ready = until_asked ++ ready_tells

-- up to the finish of the update node
abbrev pub until_made : List Entry
until_made = until_ready ++ made_tells

-- up to the letter that is dropped
abbrev pub until_dropped : List Entry
until_dropped = until_made ++ drop_tells

-- up to the take at the clean-up node
abbrev pub until_cleaning : List Entry
until_cleaning = until_dropped ++ clean_tells

-- up to the begin there
abbrev pub until_leaving : List Entry
until_leaving = until_cleaning ++ leave_tells

-- up to the ask for the first resource's delete
abbrev pub until_going : List Entry
until_going = until_leaving ++ going_tells

-- up to the poll that hears that it is gone
abbrev pub until_gone : List Entry
until_gone = until_going ++ gone_tells

-- up to the mark
abbrev pub history : List Entry
history = until_gone ++ complete_tells

-- what is alive is the new plan's resource, and the old one is gone
pub record IsCompleted : Type 0 where
  pub run : Run registries opening.state completed history
  pub headline : Headline registries opening history completed
  pub mark : mark_of opening history stack_name ≡ Some Completed
  pub fits : Fits opening history stack_name (plan 2)
  pub alive : could_of opening history (token 2) ≡ Some (living 2 (Some facts_two)) ∷ []
  pub absent : could_of opening history (token 1) ≡ None ∷ []
  pub rows : stored opening history ≡ row_made ∷ []

-- spoiled: it is marked complete once the update node is done, before the clean-up
abbrev pub complete_before_clean_up : Spoiled
complete_before_clean_up = record {
  before = until_made;
  entry = says (Engine 1) (what.Mark stack_name 2 Update None);
  broken = Completes ∷ CompleteFits ∷ [];
}
