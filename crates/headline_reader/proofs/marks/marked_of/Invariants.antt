use Rattle.std.proofs.Common.{◌≡◌, ℕ, List, drop, Option, None}
use Rattle.std.specs.Prelude.{fold, option_map}
use Rattle.core_state.specs.declared.entry.Entry.{Entry}
use Rattle.step_relation.specs.Marked.{Marked, marked_by}
use Rattle.headline_reader.specs.Marks.{marked_said}
use Rattle.headline_reader.proofs.marks.marked_of.Given as goal

abbrev pub marked_on : List ℕ → Option Marked → List Entry → Option Marked
marked_on s it es = fold (λ (before : Option Marked) (e : Entry). marked_by s before e.what) it es

abbrev pub invariant-loop-entry : goal.invariant-loop-entry
invariant-loop-entry l = marked_on l.stack (option_map marked_said l.newest) (drop l.entry-index l.entries) ≡ marked_on l.stack None l.entries
