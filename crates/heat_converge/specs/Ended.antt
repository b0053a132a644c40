-- How the program ends.
use Rattle.std.specs.Prelude.{ℕ, Result, Err}
use Rattle.converge_call.specs.declared.exit.Exit.{Exit}
use Rattle.converge_call.specs.declared.exit.Exit.TheVariants as exit
use Rattle.converge_call.specs.Exits.{status_of}
use Rattle.heat_converge.specs.declared.ended.Ended.{Ended}
use Rattle.heat_converge.specs.declared.ended.Ended.TheVariants.{Called, CloudFile}
use Rattle.heat_converge.specs.declared.kept_cloud.KeepFault.{KeepFault}
use Rattle.heat_converge.specs.declared.kept_cloud.KeepFault.TheVariants as keep

-- for the cloud file, or for want of memory for it
abbrev pub kept_of : KeepFault → Ended
kept_of (keep.File fault) = CloudFile fault
kept_of keep.Memory = Called exit.Memory

-- the status
abbrev pub code_of : Ended → ℕ
code_of (Called e) = status_of e
code_of (CloudFile fault) = 12

-- how the call ended, but where it was Done and the cloud then wasn't stored
abbrev pub ended_of : Exit → Result (Unit {0}) KeepFault → Ended
ended_of exit.Done (Err fault) = kept_of fault
ended_of e stored = Called e
