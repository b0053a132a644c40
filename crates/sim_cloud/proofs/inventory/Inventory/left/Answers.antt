use Rattle.std.proofs.Common.{sym}
use Rattle.sim_cloud.specs.Simulated.{beside_of}
use Rattle.sim_cloud.proofs.Clauses.{left_at, left_absent}
use Rattle.sim_cloud.proofs.inventory.Inventory.left.Goals as goal

pub returns-in-Some : goal.returns-in-Some
returns-in-Some c =
    sym (left_at c.args.self.now.held.all (beside_of c.args.self.now) c.args.token.now c.in-Some.at c.get.result.now (sym c.in-Some.ensures) c.get.ensures)

pub returns-in-None : goal.returns-in-None
returns-in-None c = sym (left_absent c.args.self.now.held.all c.args.token.now (sym c.in-None.ensures))
