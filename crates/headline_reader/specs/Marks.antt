-- What a mark that was read says, in the words of step_relation.
use Rattle.std.specs.Prelude.{ℕ, List, Option, None, Some, fold}
use Rattle.heat_plan.specs.declared.phase.Status.{Status}
use Rattle.heat_plan.specs.declared.phase.Status.TheVariants.{Complete, Failed, InProgress}
use Rattle.core_state.specs.declared.entry.Entry.{Entry}
use Rattle.step_relation.specs.Marked.{Mark, Marked, Unmarked, Completed, FailedFor, marked_by}
use Rattle.headline_reader.specs.declared.marks.Mark.{Mark as mark_type}
use Rattle.headline_reader.specs.declared.marks.Mark.TheVariants as mark
use Rattle.headline_reader.specs.declared.marks.Marked.{Marked as marked_type}

abbrev pub mark_said : mark_type → Mark
mark_said mark.Unmarked = Unmarked
mark_said mark.Completed = Completed
mark_said (mark.FailedFor cause) = FailedFor (Some cause)

-- the status of a stack with this mark
abbrev pub status_said : mark_type → Status
status_said mark.Unmarked = InProgress
status_said mark.Completed = Complete
status_said (mark.FailedFor cause) = Failed

abbrev pub marked_said : marked_type → Marked
marked_said it = record { trav = it.trav; mark = mark_said it.mark }

-- the newest traversal and its mark, behind nothing
abbrev pub marked_after : List ℕ → List Entry → Option Marked
marked_after s h = fold (λ (before : Option Marked) (e : Entry). marked_by s before e.what) None h
