use Rattle.std.proofs.Common.{ap, sym}
use Rattle.provider.specs.declared.alive.Alive.{Alive}
use Rattle.provider.proofs.States.{entry-alive}
use Rattle.sim_cloud.specs.Simulated.{beside_of, shown_by}
use Rattle.sim_cloud.proofs.Clauses.{is_at, not_placed}
use Rattle.sim_cloud.proofs.inventory.Inventory.is_ready.Goals as goal

pub returns-in-Some : goal.returns-in-Some
returns-in-Some c it e =
    ap (λ (a : Alive). a.ready) (is_at c.args.self.now.held.all (beside_of c.args.self.now) c.args.token.now c.in-Some.at c.get.result.now it (sym c.in-Some.ensures) c.get.ensures e)

pub returns-in-None : goal.returns-in-None
returns-in-None c it e =
    absurd (not_placed c.args.self.now.held.all (beside_of c.args.self.now) c.args.token.now (sym c.in-None.ensures) (entry-alive (shown_by c.args.self.now) c.args.token.now it e))
