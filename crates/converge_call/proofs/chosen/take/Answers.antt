use Rattle.converge_call.specs.Options.{workers, cloud}
use Rattle.converge_call.specs.Choices.{said_of}
use Rattle.converge_call.proofs.Options.{no_option}
use Rattle.converge_call.proofs.chosen.take.Goals as goal

pub returns-in-Some-clause-read : goal.returns-in-Some-clause-read
returns-in-Some-clause-read c = workers c.in-Some.digits.now c.in-Some.ensures c.in_ok-with_workers.ensures

pub returns-in_err-path-clause-read : goal.returns-in_err-path-clause-read
returns-in_err-path-clause-read c = rw c.from_residual-in_err-path.ensures (λ after rest.
    no_option c.args.options.now (said_of c.args.before) c.in_default.ensures c.in_err-path.ensures after rest)

pub returns-clause-read : goal.returns-clause-read
returns-clause-read c = cloud c.in_ok-path.path.now c.in_ok-path.ensures c.in_ok-with_cloud.ensures
