-- The rollback goes on to its end: the failed row is cleaned up, and what it may have asked for is gone.
use Rattle.std.specs.Prelude.{List, None, Some, [], true, ◌++◌, ◌∷◌, ◌≡◌}
use Rattle.heat_plan.specs.declared.item.Policy.{Policy}
use Rattle.heat_plan.specs.declared.phase.Act.TheVariants.{Delete, Rollback}
use Rattle.heat_plan.specs.declared.phase.Status.TheVariants.{Complete, InProgress}
use Rattle.row_table.specs.declared.row.Row.{Row}
use Rattle.sync_points.specs.declared.point.Point.{Point}
use Rattle.mail_table.specs.declared.mail.Job.{Job}
use Rattle.mail_table.specs.declared.mail.Stage.{Stage}
use Rattle.mail_table.specs.declared.mail.Stage.TheVariants.{Asking, Ending, Polling, Taken}
use Rattle.core_state.specs.State.{StateData}
use Rattle.core_state.specs.declared.entry.Actor.TheVariants.{Engine}
use Rattle.core_state.specs.declared.entry.Entry.{Entry}
use Rattle.core_state.specs.declared.entry.MailWrite.TheVariants.{Dropped, Ended, Held}
use Rattle.core_state.specs.declared.entry.RowWrite.TheVariants.{Purge, Set}
use Rattle.core_state.specs.declared.graph.Graph.{Graph}
use Rattle.core_state.specs.declared.stack.Stack.{Stack}
use Rattle.step_relation.specs.Freshness.{plan_of}
use Rattle.step_relation.specs.Runs.{Run}
use Rattle.step_relation.specs.Could.{could_of}
use Rattle.step_relation.specs.Fits.{Fits}
use Rattle.step_relation.specs.Marked.{Completed, mark_of}
use Rattle.step_relation.specs.Stored.{stored}
use Rattle.step_relation.specs.Headline.{Headline}
use Rattle.history_examples.specs.FailedFirst.{row_failed_under}
use Rattle.history_examples.specs.RolledBack.{going_back_under, one_row, stack_back}
use Rattle.history_examples.specs.Sentences.{CompleteFits, Completes}
use Rattle.history_examples.specs.Setting.{job, letter, mail_writes, opening, registries, row_writes, says, stack_name}
use Rattle.history_examples.specs.Setting.{token}
use Rattle.history_examples.specs.Spoiled.{Spoiled}
use Rattle.history_examples.specs.Updates.{open_point}
use Rattle.heat_plan.specs.declared.calls.Answered.TheVariants as answer
use Rattle.heat_plan.specs.declared.calls.Request.TheVariants as request
use Rattle.core_state.specs.declared.entry.What.TheVariants as what
use Rattle.heat_plan.specs.declared.item.Policy.TheVariants as policies
use Rattle.history_examples.specs.RolledBack as before

-- the failed row, taken and leaving
abbrev pub row_held_under : Policy → Row
row_held_under policy = record (row_failed_under policy) { engine = Some 1; key = 3 }

-- with the policy of all examples but one
abbrev pub row_held : Row
row_held = row_held_under policies.Delete

-- the failed row, to be deleted for the second traversal
abbrev pub row_leaving : Row
row_leaving = record row_held { act = Delete; status = InProgress; trav = 2 }

-- the job at the clean-up node, and the graph once it is done
abbrev pub cleans : Stage → Job
cleans stage = job 1 (letter 2 2 0) 1 stage

-- that node's point, once it is done
abbrev pub done : Point
done = record (open_point 0) { done = true }

-- the graph with that point
abbrev pub graph_done : Graph
graph_done = record { stack = stack_name; graph = one_row; points = done ∷ [] }

-- the stack, whose rollback is complete
abbrev pub stack_undone : Stack
stack_undone = record stack_back { status = Complete }

-- the states: the row is taken, is to go, is leaving, is gone, and the rollback is complete
abbrev pub cleaning_under : Policy → StateData
cleaning_under policy = record (going_back_under policy) {
  rows = row_held_under policy ∷ [];
  letters = [];
  jobs = cleans Taken ∷ [];
}

-- with the policy of all examples but one
abbrev pub cleaning : StateData
cleaning = cleaning_under policies.Delete

-- the row is to be deleted
abbrev pub leaving : StateData
leaving = record cleaning { rows = row_leaving ∷ []; jobs = cleans Asking ∷ [] }

-- the cloud was asked to delete its resource
abbrev pub going : StateData
going = record leaving { jobs = cleans Polling ∷ [] }

-- the cloud said that it is gone, and so is the row
abbrev pub gone : StateData
gone = record going { rows = []; jobs = cleans Ending ∷ [] }

-- the node is done, and the rollback has its mark
abbrev pub undone : StateData
undone = record gone { stacks = stack_undone ∷ []; graphs = graph_done ∷ []; jobs = [] }

-- what each step tells
abbrev pub clean_tells : Policy → List Entry
clean_tells policy =
    row_writes 1 (Set (row_held_under policy) ∷ []) ∷ mail_writes 1 (Dropped 2 ∷ Held (cleans Taken) ∷ []) ∷ []

-- the begin at the clean-up node: the row is to go
abbrev pub leave_tells : List Entry
leave_tells = row_writes 1 (Set row_leaving ∷ []) ∷ mail_writes 1 (Held (cleans Asking) ∷ []) ∷ []

-- the ask: the cloud is to delete the resource
abbrev pub going_tells : List Entry
going_tells =
    says (Engine 1) (what.Call (token 1) request.Delete answer.Begun) ∷ mail_writes 1 (Held (cleans Polling) ∷ []) ∷ []

-- the poll: it is gone, and its row with it
abbrev pub gone_tells : List Entry
gone_tells =
    says (Engine 1) (what.Call (token 1) request.Gone answer.Gone)
    ∷ row_writes 1 (Purge 1 ∷ [])
    ∷ mail_writes 1 (Held (cleans Ending) ∷ [])
    ∷ []

-- the finish, and the mark behind it
abbrev pub complete_tells : List Entry
complete_tells = mail_writes 1 (Ended 1 ∷ []) ∷ says (Engine 1) (what.Mark stack_name 2 Rollback None) ∷ []

-- the histories so far
abbrev pub until_cleaning_under : Policy → List Entry
until_cleaning_under policy = before.history_under policy ++ clean_tells policy

-- the same, with the policy of all examples but one
abbrev pub until_cleaning : List Entry
until_cleaning = until_cleaning_under policies.Delete

-- up to the begin at the clean-up node
abbrev pub until_leaving : List Entry
until_leaving = until_cleaning ++ leave_tells

-- up to the ask for the resource's delete
abbrev pub until_going : List Entry
until_going = until_leaving ++ going_tells

-- up to the poll that hears that it is gone
abbrev pub until_gone : List Entry
until_gone = until_going ++ gone_tells

-- up to the mark
abbrev pub history : List Entry
history = until_gone ++ complete_tells

-- nothing is alive, nothing is in doubt, and the stack stands with a plan of nothing
pub record IsUndone : Type 0 where
  pub run : Run registries opening.state undone history
  pub headline : Headline registries opening history undone
  pub mark : mark_of opening history stack_name ≡ Some Completed
  pub fits : Fits opening history stack_name (plan_of None)
  pub absent : could_of opening history (token 1) ≡ None ∷ []
  pub rows : stored opening history ≡ []

-- spoiled: it is marked complete at once, though what failed may be alive
abbrev pub marked_in_doubt : Spoiled
marked_in_doubt = record {
  before = before.history;
  entry = says (Engine 1) (what.Mark stack_name 2 Rollback None);
  broken = Completes ∷ CompleteFits ∷ [];
}
