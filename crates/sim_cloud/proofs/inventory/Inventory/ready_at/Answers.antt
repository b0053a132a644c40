use Rattle.sim_cloud.specs.Simulated.{beside_of}
use Rattle.sim_cloud.proofs.Clauses.{has_facts, if_ok}
use Rattle.sim_cloud.proofs.inventory.Inventory.ready_at.Goals as goal

pub returns-clause-had : goal.returns-clause-had
returns-clause-had c = if_ok c.tell_at.result c.tell_at.ensures.same (λ f same.
    rw (same, c.in_ok-facts.ensures) (has_facts c.args.self.now.held.all (beside_of c.args.self.now) c.args.token.now c.args.at c.get.result.now c.requires c.get.ensures))
