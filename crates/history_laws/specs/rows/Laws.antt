-- What is kept of rows, jobs and letters.
use Rattle.std.specs.Prelude.{Some, ℕ, ◌≡◌}
use Rattle.row_table.specs.Rows.{row_at}
use Rattle.row_table.specs.declared.row.Row.{Row}
use Rattle.step_relation.specs.State.{StateData}
use Rattle.step_relation.specs.Groups.{KeptByCommands, KeptByEngines, KeptByMoves}
use Rattle.step_relation.specs.RowsFit.{RowFits}

-- each row fits its act and status
abbrev pub EachRowFits : StateData → Type 0
EachRowFits s = (n : ℕ) (r : Row) → row_at s.rows n ≡ Some r → RowFits r

abbrev pub EachRowFitsByMoves : Type 0
EachRowFitsByMoves = KeptByMoves EachRowFits

abbrev pub EachRowFitsByCommands : Type 0
EachRowFitsByCommands = KeptByCommands EachRowFits

abbrev pub EachRowFitsByEngines : Type 0
EachRowFitsByEngines = KeptByEngines EachRowFits
