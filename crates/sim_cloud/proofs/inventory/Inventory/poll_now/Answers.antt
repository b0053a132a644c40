use Rattle.std.proofs.Common.{sym, ◌∙◌, arith}
use Rattle.sim_cloud.specs.Simulated.{beside_of}
use Rattle.sim_cloud.proofs.Clauses.{not_placed, left_at}
use Rattle.sim_cloud.proofs.inventory.Inventory.poll_now.Goals as goal

pub unreachable-requires : goal.unreachable-requires
unreachable-requires c = not_placed c.args.self.now.held.all (beside_of c.args.self.now) c.args.token.now (sym c.in-None.ensures) c.requires

pub returns-else-get-gt0-clause-due : goal.returns-else-get-gt0-clause-due
returns-else-get-gt0-clause-due c _ _ _ =
    left_at c.args.self.now.held.all (beside_of c.args.self.now) c.args.token.now c.in-Some.at c.get.result.now (sym c.in-Some.ensures) c.get.ensures ∙ omega (arith, c.if-get-gt0.false)
