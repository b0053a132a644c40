-- What is seen, and the way back.
use Rattle.std.proofs.Common.{◌≡◌, ◌∙◌, ℕ, ◌+◌, ◌≤◌, List, [], ◌∷◌, ◌++◌, Option, length, refl, ap, arith}
use Rattle.std.specs.Ordering.{nat_cmp}
use Rattle.std.specs.Cmp.Lexicographic.{slice_cmp}
use Rattle.std.proofs.lemmas.List.{length_push}
use Rattle.keyed_table.specs.Lists.{restored}
use Rattle.keyed_table.specs.SortedRooms.{Roomy}
use Rattle.report.specs.Seen.{SeenData, row_key, stack_key, with_rows, with_stacks}
use Rattle.report.specs.Undone.{undone, unwound, CanUnwind, HasRoom}
use Rattle.report.specs.declared.brief.SeenRow.{SeenRow}
use Rattle.report.specs.declared.brief.SeenStack.{SeenStack}
use Rattle.report.specs.declared.log.Was.{Was}
use Rattle.report.specs.declared.log.Was.TheVariants as was
use Rattle.report.specs.declared.seen.Seen.{Seen}

-- the last is taken back first
pub unwound-last : (log : List Was) (last : Was) (seen : SeenData)
    → unwound (log ++ last ∷ []) seen ≡ unwound log (undone last seen)
unwound-last [] last seen = refl
unwound-last (w ∷ log) last seen = ap (undone w) (unwound-last log last seen)

module _ (log new : List Was) (old : SeenData) where
  -- a row that is written, and what puts it back
  pub row_back : (n : ℕ) (before : Option SeenRow) (rows : List SeenRow)
      → restored nat_cmp row_key n before rows ≡ old.rows
      → new ≡ log ++ was.Row n before ∷ [] → unwound new (with_rows old rows) ≡ unwound log old
  row_back n before rows back pushed =
      ap (λ (l : List Was). unwound l (with_rows old rows)) pushed
      ∙ unwound-last log (was.Row n before) (with_rows old rows)
      ∙ ap (λ (l : List SeenRow). unwound log (with_rows old l)) back

  pub stack_back : (name : List ℕ) (before : Option SeenStack) (stacks : List SeenStack)
      → restored (slice_cmp nat_cmp) stack_key name before stacks ≡ old.stacks
      → new ≡ log ++ was.Stack name before ∷ [] → unwound new (with_stacks old stacks) ≡ unwound log old
  stack_back name before stacks back pushed =
      ap (λ (l : List Was). unwound l (with_stacks old stacks)) pushed
      ∙ unwound-last log (was.Stack name before) (with_stacks old stacks)
      ∙ ap (λ (l : List SeenStack). unwound log (with_stacks old l)) back

-- one thing more was written, in one of the two lists
pub can_unwind : (log new : Roomy Was) (old seen : Seen) (w : Was) → HasRoom log old → new.items ≡ log.items ++ w ∷ []
    → old.rows.spare ≤ seen.rows.spare + 1 → old.stacks.spare ≤ seen.stacks.spare + 1 → CanUnwind new seen
can_unwind log new old seen w room pushed rows stacks =
    let more : length new.items ≡ length log.items + 1 = ap (λ (l : List Was). length l) pushed
    ∙ length_push log.items w in
    record { rows = omega (arith, more, room.rows, rows); stacks = omega (arith, more, room.stacks, stacks) }

-- one thing was taken back, in one of the two lists
pub can_unwind_rest : (log new : Roomy Was) (old seen : Seen) (w : Was) → CanUnwind log old
    → log.items ≡ new.items ++ w ∷ []
    → old.rows.spare ≤ seen.rows.spare + 1 → old.stacks.spare ≤ seen.stacks.spare + 1 → CanUnwind new seen
can_unwind_rest log new old seen w can popped rows stacks =
    let more : length log.items ≡ length new.items + 1 = ap (λ (l : List Was). length l) popped
    ∙ length_push new.items w in
    record { rows = omega (arith, more, can.rows, rows); stacks = omega (arith, more, can.stacks, stacks) }
