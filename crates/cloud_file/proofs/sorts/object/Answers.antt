use Rattle.std.proofs.Common.{refl, sym, ap, subst, ◌∙◌}
use Rattle.serde_json.specs.View.{view}
use Rattle.heat_value.specs.Compact.{json_of}
use Rattle.heat_value.specs.Reading.{IsOfNumber, first_bad}
use Rattle.cloud_file.specs.Sorts.{map_read, bad_number}
use Rattle.cloud_file.proofs.sorts.object.Goals as goal

pub returns-in_ok-properties-in-Ok : goal.returns-in_ok-properties-in-Ok
returns-in_ok-properties-in-Ok c = map_read c.in_ok-properties-in-Ok.field-0 (ap json_of (sym c.in_ok-properties-in-Ok.ensures) ∙ c.in-Ok.ensures.ok)
    (c.if-not-nests_within.ensures.0 refl) c.in-Ok.ensures.whole refl

pub returns-in-Err-BadNumber : goal.returns-in-Err-BadNumber
returns-in-Err-BadNumber c =
    bad_number (c.if-not-nests_within.ensures.0 refl) c.in-Err-BadNumber.path
    (subst (λ e. IsOfNumber e (first_bad (view c.args.value.now))) c.in-Err-BadNumber.field-0-is
    c.in-Err-BadNumber.ensures.err) refl
