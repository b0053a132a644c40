-- The settings that a simulated cloud may be made with.
use Rattle.std.specs.Prelude.{◌≡◌, ◌≤◌, [], All}
use Rattle.sim_cloud.specs.declared.settings.KindDelay.{KindDelay}
use Rattle.sim_cloud.specs.declared.settings.Settings.{Settings}
use Rattle.sim_cloud.specs.Holding.{IsHolding}

-- nothing is set
pub record HasNothingSet (settings : Settings) : Type 0 where
  pub alive : settings.alive ≡ []
  pub quotas : settings.quotas ≡ []
  pub delays : settings.delays ≡ []
  pub broken : settings.broken ≡ []
  pub faults : settings.faults ≡ []
  pub late : settings.late ≡ []

-- no token stands twice, and polls left are at most 64, now and after a request
pub record IsFit (settings : Settings) : Type 0 where
  pub alive : IsHolding settings.alive
  pub delays : All (λ (d : KindDelay). d.polls ≤ 64) settings.delays
