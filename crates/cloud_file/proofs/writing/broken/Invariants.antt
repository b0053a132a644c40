use Rattle.std.proofs.Common.{◌≡◌, drop}
use Rattle.heat_value.specs.Data.{words}
use Rattle.sim_cloud.specs.declared.settings.NameCode.{NameCode}
use Rattle.cloud_file.specs.Written.{map_of}
use Rattle.cloud_file.proofs.writing.broken.Given as goal

-- what stands behind is in the map
abbrev pub invariant-loop-at : goal.invariant-loop-at
invariant-loop-at l = l.all ≡ map_of (λ (x : NameCode). x.name) (λ (x : NameCode). words x.code) (drop l.at l.broken)
