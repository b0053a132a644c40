-- The rows that are stored, and the tokens that were given up, by the history alone.
use Rattle.std.specs.Prelude.{List, [], fold, ◌++◌, ◌∷◌}
use Rattle.heat_plan.specs.declared.token.Token.{Token}
use Rattle.row_table.specs.Rows.{cut_row, put_row}
use Rattle.row_table.specs.declared.row.Row.{Row}
use Rattle.core_state.specs.declared.entry.Entry.{Entry}
use Rattle.core_state.specs.declared.entry.RowWrite.{RowWrite}
use Rattle.core_state.specs.declared.entry.RowWrite.TheVariants.{Purge, Set}
use Rattle.core_state.specs.declared.entry.What.{What}
use Rattle.step_relation.specs.Opening.{Opening}
use Rattle.core_state.specs.declared.entry.What.TheVariants as what

-- a row is set under its number, or goes
abbrev pub written : List Row → RowWrite → List Row
written rows (Set row) = put_row row rows
written rows (Purge number) = cut_row number rows

-- what an entry writes to rows, each write in its turn
abbrev pub stored_by : List Row → What → List Row
stored_by rows (what.Rows writes) = fold written rows writes
stored_by rows (what.Command stack trav act plan rollback) = rows
stored_by rows (what.Call token request given) = rows
stored_by rows (what.Release token) = rows
stored_by rows (what.Mark stack trav act cause) = rows
stored_by rows (what.Mail writes) = rows
stored_by rows (what.Engine change) = rows
stored_by rows (what.Show it stack) = rows
stored_by rows (what.Note line code path) = rows
stored_by rows (what.Ran idle turns) = rows
stored_by rows (what.Turned engine lost) = rows
stored_by rows (what.Preview stack forecast) = rows
stored_by rows what.Closed = rows

-- the opening's rows, and each write in its turn
abbrev pub stored : Opening → List Entry → List Row
stored o h = fold (λ (rows : List Row) (e : Entry). stored_by rows e.what) o.state.rows h

-- a token that an entry gives up goes behind those before
abbrev pub released_by : List Token → What → List Token
released_by tokens (what.Release token) = tokens ++ token ∷ []
released_by tokens (what.Rows writes) = tokens
released_by tokens (what.Command stack trav act plan rollback) = tokens
released_by tokens (what.Call token request given) = tokens
released_by tokens (what.Mark stack trav act cause) = tokens
released_by tokens (what.Mail writes) = tokens
released_by tokens (what.Engine change) = tokens
released_by tokens (what.Show it stack) = tokens
released_by tokens (what.Note line code path) = tokens
released_by tokens (what.Ran idle turns) = tokens
released_by tokens (what.Turned engine lost) = tokens
released_by tokens (what.Preview stack forecast) = tokens
released_by tokens what.Closed = tokens

-- the tokens that the opening had given up, and those given up since
abbrev pub released : Opening → List Entry → List Token
released o h = fold (λ (tokens : List Token) (e : Entry). released_by tokens e.what) o.state.released h
