-- The words name a file, or none.
use Rattle.std.proofs.Common.{refl}
use Rattle.heat_converge.specs.Called.{empty, over}
use Rattle.heat_converge.proofs.run_by.Goals as goal

pub returns-in-Some : goal.returns-in-Some
returns-in-Some c = over c.in-Some.path (rw c.in-Some.is at c.in_ok-path.ensures) c.call_kept.ensures

pub returns-in_ok-empty_cloud-in-None : goal.returns-in_ok-empty_cloud-in-None
returns-in_ok-empty_cloud-in-None c = empty c.in_ok-empty_cloud-in-None.field-0 c.call-status.result.1
    c.call-status.result.0 (rw c.in-None.is at c.in_ok-path.ensures) c.in_ok-empty_cloud-in-None.ensures
    c.call-status.ensures refl
