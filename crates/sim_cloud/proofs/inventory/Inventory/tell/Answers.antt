use Rattle.std.proofs.Common.{sym, ◌∙◌, true≢false}
use Rattle.provider.proofs.States.{entry-alive}
use Rattle.sim_cloud.specs.Simulated.{beside_of, shown_by}
use Rattle.sim_cloud.proofs.Clauses.{not_placed, unready_at}
use Rattle.sim_cloud.proofs.inventory.Inventory.tell.Goals as goal

pub unreachable-requires : goal.unreachable-requires
unreachable-requires c =
    not_placed c.args.self.now.held.all (beside_of c.args.self.now) c.args.token.now (sym c.in-None.ensures) (entry-alive (shown_by c.args.self.now) c.args.token.now c.requires.0 c.requires.1)

pub tell_at-requires-clause-steady : goal.tell_at-requires-clause-steady
tell_at-requires-clause-steady c h here ready =
    absurd (true≢false (sym ready ∙ unready_at c.args.self.now.held.all (beside_of c.args.self.now) c.args.token.now c.in-Some.at h (sym c.in-Some.ensures) here c.requires))
