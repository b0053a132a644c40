use Rattle.std.proofs.Common.{refl}
use Rattle.sim_cloud.proofs.Kept.{holding_set}
use Rattle.sim_cloud.proofs.holdings.Holdings.send_away.Goals as goal

pub invariant_of-self : goal.invariant_of-self
invariant_of-self c = record { fit = holding_set c.args.self.now.all c.args.at c.item_mut-one.result.now _ c.args.self.now.fit c.item_mut-one.ensures.value refl (c.requires.few) }
