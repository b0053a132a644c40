use Rattle.std.proofs.Common.{◌≡◌, ℕ, List, drop, Option, None}
use Rattle.std.specs.Prelude.{fold}
use Rattle.core_state.specs.declared.entry.Entry.{Entry}
use Rattle.step_relation.specs.Newest.{Latest, newest_by}
use Rattle.headline_reader.proofs.traversal.newest.Given as goal

abbrev pub newest_on : List ℕ → Option Latest → List Entry → Option Latest
newest_on s latest es = fold (λ (before : Option Latest) (e : Entry). newest_by s before e.what) latest es

abbrev pub invariant-loop-entry : goal.invariant-loop-entry
invariant-loop-entry l = newest_on l.stack l.latest (drop l.entry-index l.entries) ≡ newest_on l.stack None l.entries
