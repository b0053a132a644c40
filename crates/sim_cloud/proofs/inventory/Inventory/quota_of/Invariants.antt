use Rattle.std.proofs.Common.{◌≡◌, drop}
use Rattle.sim_cloud.specs.Shown.{quota_in}
use Rattle.sim_cloud.proofs.inventory.Inventory.quota_of.Given as goal

abbrev pub invariant-loop-quota : goal.invariant-loop-quota
invariant-loop-quota l = quota_in l.fn.self.quotas l.kind ≡ quota_in (drop l.quota-index l.quota-items) l.kind
