use Rattle.std.proofs.Common.{ap}
use Rattle.core_state.specs.declared.entry.Why.TheVariants as why
use Rattle.step_ends.specs.Answers.{of_code}
use Rattle.step_ends.proofs.calls.reason_of.Goals as goal

pub returns-in_ok-copy-in-Broken : goal.returns-in_ok-copy-in-Broken
returns-in_ok-copy-in-Broken c = of_code _ c.in-Broken.is (ap (why.Broken c.args.act) c.in_ok-copy-in-Broken.ensures)
