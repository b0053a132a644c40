-- What is seen, taken back step by step.
use Rattle.std.specs.Prelude.{◌≤◌, ◌+◌, List, [], ◌∷◌, length}
use Rattle.std.specs.Ordering.{nat_cmp}
use Rattle.std.specs.Cmp.Lexicographic.{slice_cmp}
use Rattle.keyed_table.specs.Lists.{restored}
use Rattle.keyed_table.specs.SortedRooms.{Roomy}
use Rattle.report.specs.Seen.{SeenData, row_key, stack_key, with_rows, with_stacks}
use Rattle.report.specs.declared.log.Was.{Was}
use Rattle.report.specs.declared.log.Was.TheVariants.{Row, Stack}
use Rattle.report.specs.declared.seen.Seen.{Seen}

-- what is seen in the lists
abbrev pub shown : Seen → SeenData
shown seen = record { rows = seen.rows.items; stacks = seen.stacks.items }

-- what a key had before is put back
abbrev pub undone : Was → SeenData → SeenData
undone (Row n old) seen = with_rows seen (restored nat_cmp row_key n old seen.rows)
undone (Stack name old) seen = with_stacks seen (restored (slice_cmp nat_cmp) stack_key name old seen.stacks)

-- all of it, the last first
abbrev pub unwound : List Was → SeenData → SeenData
unwound [] seen = seen
unwound (was ∷ rest) seen = undone was (unwound rest seen)

-- all that was written can be taken back with no memory
pub record CanUnwind (log : Roomy Was) (seen : Seen) : Type 0 where
  pub rows : length log.items ≤ seen.rows.spare
  pub stacks : length log.items ≤ seen.stacks.spare

-- one thing more can be written
pub record HasRoom (log : Roomy Was) (seen : Seen) : Type 0 where
  pub rows : length log.items + 2 ≤ seen.rows.spare
  pub stacks : length log.items + 2 ≤ seen.stacks.spare
  pub noted : 1 ≤ log.spare
