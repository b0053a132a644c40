use Rattle.std.proofs.Common.{sym}
use Rattle.sim_cloud.specs.Simulated.{beside_of}
use Rattle.sim_cloud.proofs.Clauses.{placed_not_absent, unplaced}
use Rattle.sim_cloud.proofs.inventory.Inventory.refuses.Goals as goal

pub returns-in-Some-clause-room : goal.returns-in-Some-clause-room
returns-in-Some-clause-room c _ none full = placed_not_absent c.args.self.now.held.all (beside_of c.args.self.now) c.args.token.now c.in-Some.field-0 (sym c.in-Some.ensures) none

pub returns-in-None-clause-absent : goal.returns-in-None-clause-absent
returns-in-None-clause-absent c _ = unplaced c.args.self.now.held.all (beside_of c.args.self.now) c.args.token.now (sym c.in-None.ensures)
