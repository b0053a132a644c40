-- Each row fits its act and status after any step: `each_row_moves`, `each_row_commands`, `each_row_engines`.
pub mod Written
pub mod RowKinds
pub mod EachRow
