-- Which rows that are seen are current.
use Rattle.std.proofs.Common.{◌≡◌, ◌≢◌, ◌↔◌, ℕ, true, not, ◌&&◌, Option, Some, None, refl}
use Rattle.std.specs.Prelude.{is_none}
use Rattle.heat_plan.specs.declared.phase.Act.{Act}
use Rattle.heat_plan.specs.declared.phase.Act.TheVariants.{Init, Create, Update, Delete, Rollback}
use Rattle.row_table.specs.Chains.{IsCurrent}
use Rattle.row_table.specs.declared.row.Row.{Row}
use Rattle.report.specs.Outputs.{is_delete, is_current}
use Rattle.report.specs.Seen.{row_seen}

kept : (act : Act) (behind : Option ℕ) → (not (is_delete act) && is_none behind) ≡ true → act ≢ Delete
kept Init behind e = λ is. cc
kept Create behind e = λ is. cc
kept Update behind e = λ is. cc
kept Delete behind e = cc
kept Rollback behind e = λ is. cc

last : (act : Act) (behind : Option ℕ) → (not (is_delete act) && is_none behind) ≡ true → behind ≡ None
last act None e = refl
last Init (Some n) e = cc
last Create (Some n) e = cc
last Update (Some n) e = cc
last Delete (Some n) e = cc
last Rollback (Some n) e = cc

both : (act : Act) (behind : Option ℕ) → act ≢ Delete → behind ≡ None → (not (is_delete act) && is_none behind) ≡ true
both act (Some n) differs e = cc
both Init None differs e = refl
both Create None differs e = refl
both Update None differs e = refl
both Delete None differs e = absurd (differs refl)
both Rollback None differs e = refl

pub seen_is_current : (r : Row) → (is_current (row_seen r) ≡ true) ↔ IsCurrent r
seen_is_current r = (
  λ e. record { kept = kept r.act r.replaced_by e; last = last r.act r.replaced_by e },
  λ is. both r.act r.replaced_by is.kept is.last,
)
