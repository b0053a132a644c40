-- The current row of the name is the row itself, exactly where they have one number.
use Rattle.std.proofs.Common.{◌≡◌, ℕ, Bool, List, Some, subst, arith}
use Rattle.std.specs.Prelude.{IsTrue, eqb}
use Rattle.row_table.specs.Rows.{row_at}
use Rattle.row_table.specs.declared.row.Row.{Row}
use Rattle.step_relation.specs.Targets.{IsCurrentOf}
use Rattle.history_laws.proofs.tables.Rows.{same_some}
use Rattle.history_laws.proofs.tables.Targets.{current_once}
use Rattle.cleanup_steps.proofs.keeping.is_current.Goals as goal

by_number : (rows : List Row) (stack name : List ℕ) (q r : Row) → IsCurrentOf rows stack name q
    → row_at rows r.no ≡ Some r → q.no ≡ r.no → IsCurrentOf rows stack name r
by_number rows stack name q r is at number =
    let found : row_at rows r.no ≡ Some q = subst (λ (k : ℕ). row_at rows k ≡ Some q) number is.found in
    subst (IsCurrentOf rows stack name) (same_some q r found at) is

both : (rows : List Row) (stack name : List ℕ) (q r : Row) (b : Bool) → IsCurrentOf rows stack name q
    → row_at rows r.no ≡ Some r → b ≡ eqb q.no r.no → (IsTrue b → IsCurrentOf rows stack name r) × (IsCurrentOf rows stack name r → IsTrue b)
both rows stack name q r b is at test = (
  λ yes. by_number rows stack name q r is at (grind (arith, test, yes)),
  λ its. yes_at (current_once rows stack name q r is its),
)
  where
    yes_at : q.no ≡ r.no → IsTrue b
    yes_at number = grind (arith, test, number)

pub returns-in-Some : goal.returns-in-Some
returns-in-Some c =
    both _ _ _ c.in-Some.current.now c.args.row.now c.eq.result c.in-Some.ensures.some c.requires c.eq.ensures
