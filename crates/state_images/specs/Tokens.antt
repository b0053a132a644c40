-- The rows' tokens, by stack, name and number.
use Rattle.std.specs.Prelude.{List, Some, length, ℕ, ◌≡◌, ◌≢◌}
use Rattle.std.specs.List.{AllAdjacentBelow}
use Rattle.std.specs.List.Sorted.{IsSorted}
use Rattle.std.specs.Cmp.Lexicographic.{slice_cmp}
use Rattle.std.specs.Ordering.{nat_cmp, ordering_then}
use Rattle.std.specs.declared.cmp.Ordering.{Ordering}
use Rattle.heat_plan.specs.declared.token.Token.{Token}
use Rattle.row_table.specs.Chains.{IsCurrent}
use Rattle.row_table.specs.Rows.{row_at}
use Rattle.core_state.specs.declared.Row.{Row}

abbrev pub token_cmp : Token → Token → Ordering
token_cmp a b = ordering_then (slice_cmp nat_cmp a.stack b.stack)
    (ordering_then (slice_cmp nat_cmp a.name b.name) (nat_cmp a.row b.row))

abbrev pub AreSorted : List Token → Type 0
AreSorted = IsSorted token_cmp

-- the row of this number is current
pub record HasCurrent (rows : List Row) (n : ℕ) : Type 0 where
  pub row : Row
  pub its : row_at rows n ≡ Some row
  pub current : IsCurrent row

-- the one token's row is current though the other is newer of its name
pub record IsBeaten (rows : List Row) (t u : Token) : Type 0 where
  pub stack : t.stack ≡ u.stack
  pub name : t.name ≡ u.name
  pub apart : t.row ≢ u.row
  pub current : HasCurrent rows t.row

abbrev pub NoneIsBeaten : List Row → List Token → Type 0
NoneIsBeaten rows tokens = AllAdjacentBelow (λ t u. ¬ IsBeaten rows t u) tokens (length tokens)
