use Rattle.std.proofs.Common.{◌+◌, ◌^◌, [], Some, inr, refl}
use Rattle.step_ends.proofs.Refusing.{beyond}
use Rattle.step_ends.proofs.Turns.{failure_worn}
use Rattle.step_ends.proofs.falling.marked.Goals as goal

pub returns-then-not-may_rise-clause-cause : goal.returns-then-not-may_rise-clause-cause
returns-then-not-may_rise-clause-cause c = inr (
  refl,
  failure_worn c.args.s.now.state c.args.e c.args.row.now [] (Some c.args.stack.now)
      (beyond _ (c.args.row.now.key + 1) (2 ^ 62) c.may_rise.ensures.1 c.if-not-may_rise.true),
)
