use Rattle.std.proofs.Common.{◌≡◌, drop, List, []}
use Rattle.std.specs.Prelude.{fold}
use Rattle.row_table.specs.declared.row.Row.{Row}
use Rattle.core_state.specs.declared.entry.Entry.{Entry}
use Rattle.step_relation.specs.Stored.{stored_by}
use Rattle.headline_reader.proofs.rows.stored.Given as goal

abbrev pub stored_on : List Row → List Entry → List Row
stored_on rows es = fold (λ (before : List Row) (e : Entry). stored_by before e.what) rows es

abbrev pub invariant-loop-entry : goal.invariant-loop-entry
invariant-loop-entry l = stored_on l.rows.items (drop l.entry-index l.entries) ≡ stored_on [] l.entries
