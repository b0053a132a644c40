use Rattle.std.proofs.Common.{◌≡◌, take}
use Rattle.cloud_file.specs.Written.{resource_nodes}
use Rattle.cloud_file.proofs.writing.resources.Given as goal

-- those in front are in the list
abbrev pub invariant-loop-one : goal.invariant-loop-one
invariant-loop-one l = l.all ≡ resource_nodes (take l.one-index l.held)
