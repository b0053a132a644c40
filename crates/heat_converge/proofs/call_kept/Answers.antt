-- The cloud of the file was read, or not.
use Rattle.heat_converge.specs.Called.{called, unloaded}
use Rattle.heat_converge.proofs.call_kept.Goals as goal

pub returns-in-Ok : goal.returns-in-Ok
returns-in-Ok c = called c.in-Ok.cloud c.call-status.result.1 c.call-status.result.0 c.store.result
    c.call-status.ensures c.after.ensures

pub returns-in-Err : goal.returns-in-Err
returns-in-Err c = unloaded c.in-Err.fault c.from.ensures
