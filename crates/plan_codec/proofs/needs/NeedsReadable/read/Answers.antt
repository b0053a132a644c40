use Rattle.std.proofs.lemmas.Bool.{both_ways}
use Rattle.std.proofs.lemmas.Result.{err_from_is_err_and}
use Rattle.heat_plan.specs.Names.{IsResName}
use Rattle.plan_codec.specs.Numbers.{spelled_bytes}
use Rattle.plan_codec.specs.Parts.{spelled_list, AreAll}
use Rattle.plan_codec.specs.Plans.{IsProperNeeds}
use Rattle.plan_codec.specs.Laws.{list_unique, resource_name_unique}
use Rattle.plan_codec.proofs.Readings.{not_taken, refused_more}
use Rattle.plan_codec.proofs.needs.NeedsReadable.read.Goals as goal

pub returns-in_err-names-clause-err : goal.returns-in_err-names-clause-err
returns-in_err-names-clause-err c =
    let p = err_from_is_err_and c.from_residual.result c.from_residual.ensures.1 in
    rw (p.1, p.2) (refused_more (spelled_list spelled_bytes) (AreAll IsResName) IsProperNeeds c.args.bytes.now c.in_err-names.field-0.0 (λ names h. h.0) c.in_err-names.ensures.err)

pub returns-then-not-is_rising-clause-err : goal.returns-then-not-is_rising-clause-err
returns-then-not-is_rising-clause-err c =
    not_taken c.args.bytes.now c.in_ok-names.rest.now c.in_ok-names.names (list_unique resource_name_unique) (λ names h. h.0) c.in_ok-names.ensures.ok
    (λ h. both_ways c.is_rising.result c.if-not-is_rising.true (c.is_rising.ensures.1 (rw c.as_slice.ensures h.1)))
