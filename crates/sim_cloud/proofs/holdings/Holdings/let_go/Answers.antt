use Rattle.sim_cloud.proofs.Kept.{holding_remove}
use Rattle.sim_cloud.proofs.holdings.Holdings.let_go.Goals as goal

pub invariant_of-self : goal.invariant_of-self
invariant_of-self c = record { fit = rw c.remove-gone.ensures.rest (holding_remove c.args.self.now.all c.args.at c.requires c.args.self.now.fit) }
