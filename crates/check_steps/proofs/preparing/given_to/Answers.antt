use Rattle.std.proofs.Common.{ap}
use Rattle.hot_resolve.specs.Resolutions.{resolved_of}
use Rattle.check_steps.proofs.Resolving.{resolves}
use Rattle.check_steps.proofs.preparing.given_to.Goals as goal

pub returns-in-Props : goal.returns-in-Props
returns-in-Props _ c = (
  resolves c.args.plan.now c.args.item.now c.args.inputs.now c.as_slice.result.now
      c.in_ok-known.known c.as_slice-2.result.now c.in_ok-asked.field-0 _ c.as_slice.ensures.value
      c.in_ok-known.ensures c.as_slice-2.ensures c.in_ok-asked.ensures (ap resolved_of c.in-Props.is),
  c.change-effect.ensures,
)

pub returns : goal.returns
returns _ c = resolves c.args.plan.now c.args.item.now c.args.inputs.now c.as_slice.result.now c.in_ok-known.known
    c.as_slice-2.result.now c.in_ok-asked.field-0 _ c.as_slice.ensures.value c.in_ok-known.ensures
    c.as_slice-2.ensures c.in_ok-asked.ensures (ap resolved_of c.in-Fault.is)
