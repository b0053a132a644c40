use Rattle.check_steps.specs.Parts.{parts_read}
use Rattle.check_steps.proofs.Resolving.{given_over}
use Rattle.check_steps.proofs.Seeing.{begin_read}
use Rattle.check_steps.proofs.preparing.prepare_now.Goals as goal

pub returns : goal.returns
returns _ c = record {
  work = parts_read c.parts_of-parts.result;
  begins = begin_read _ c.args.e _ _ (c.parts_of-parts.ensures c.args.e c.requires);
  given = given_over c.plan.result.now _ _ c.as_slice.result.now _ _ c.prepared_for.result c.plan.ensures
      c.as_slice.ensures c.prepared_for.ensures;
}
