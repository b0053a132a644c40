-- What a report keeps of a history: its rows and stacks, in brief.
use Rattle.std.specs.Prelude.{ℕ, List, [], ◌∷◌, Option}
use Rattle.std.specs.Ordering.{nat_cmp}
use Rattle.std.specs.Cmp.Lexicographic.{slice_cmp}
use Rattle.row_table.specs.declared.row.Row.{Row}
use Rattle.core_state.specs.declared.stack.Stack.{Stack}
use Rattle.core_state.specs.declared.entry.RowWrite.{RowWrite}
use Rattle.core_state.specs.declared.entry.RowWrite.TheVariants.{Set, Purge}
use Rattle.core_state.specs.State.{StateData}
use Rattle.keyed_table.specs.Lists.{at, put, cut}
use Rattle.report.specs.declared.brief.SeenRow.{SeenRow}
use Rattle.report.specs.declared.brief.SeenStack.{SeenStack}

-- rows by their numbers, stacks by their names
pub record SeenData : Type 0 where
  pub rows : List SeenRow
  pub stacks : List SeenStack

abbrev pub row_key : SeenRow → ℕ
row_key row = row.no

abbrev pub stack_key : SeenStack → List ℕ
stack_key stack = stack.name

abbrev pub row_at : List SeenRow → ℕ → Option SeenRow
row_at rows n = at nat_cmp row_key rows n

abbrev pub stack_at : List SeenStack → List ℕ → Option SeenStack
stack_at stacks name = at (slice_cmp nat_cmp) stack_key stacks name

-- what is kept of a row
abbrev pub row_seen : Row → SeenRow
row_seen row = record {
  stack = row.stack;
  name = row.name;
  no = row.no;
  kind = row.kind.name;
  act = row.act;
  status = row.status;
  facts = row.facts;
  replaces = row.replaces;
  replaced_by = row.replaced_by;
}

-- what is kept of a stack
abbrev pub stack_seen : Stack → SeenStack
stack_seen stack = record {
  name = stack.name;
  trav = stack.trav;
  act = stack.act;
  status = stack.status;
  plan = stack.plan;
}

-- rows are seen, each over the one of its number
abbrev pub rows_seen : List SeenRow → List Row → List SeenRow
rows_seen seen [] = seen
rows_seen seen (row ∷ rows) = rows_seen (put nat_cmp row_key (row_seen row) seen) rows

abbrev pub stacks_seen : List SeenStack → List Stack → List SeenStack
stacks_seen seen [] = seen
stacks_seen seen (stack ∷ stacks) = stacks_seen (put (slice_cmp nat_cmp) stack_key (stack_seen stack) seen) stacks

-- what is seen in a state
abbrev pub seen_of : StateData → SeenData
seen_of state = record { rows = rows_seen [] state.rows; stacks = stacks_seen [] state.stacks }

-- the same, with other rows or other stacks
abbrev pub with_rows : SeenData → List SeenRow → SeenData
with_rows seen rows = record { rows = rows; stacks = seen.stacks }

abbrev pub with_stacks : SeenData → List SeenStack → SeenData
with_stacks seen stacks = record { rows = seen.rows; stacks = stacks }

-- what is seen after a write
abbrev pub after_write : SeenData → RowWrite → SeenData
after_write seen (Set row) = with_rows seen (put nat_cmp row_key (row_seen row) seen.rows)
after_write seen (Purge n) = with_rows seen (cut nat_cmp row_key n seen.rows)

abbrev pub after_writes : SeenData → List RowWrite → SeenData
after_writes seen [] = seen
after_writes seen (write ∷ writes) = after_writes (after_write seen write) writes
