use Rattle.std.proofs.Common.{◌≡◌, drop}
use Rattle.std.specs.Prelude.{pos}
use Rattle.heat_value.specs.Data.{whole}
use Rattle.sim_cloud.specs.declared.settings.KindDelay.{KindDelay}
use Rattle.cloud_file.specs.Written.{map_of}
use Rattle.cloud_file.proofs.writing.delays.Given as goal

-- what stands behind is in the map
abbrev pub invariant-loop-at : goal.invariant-loop-at
invariant-loop-at l =
    l.all ≡ map_of (λ (x : KindDelay). x.kind) (λ (x : KindDelay). whole (pos x.polls)) (drop l.at l.delays)
