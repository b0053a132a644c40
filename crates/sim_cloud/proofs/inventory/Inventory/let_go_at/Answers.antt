use Rattle.std.proofs.Common.{refl, arith}
use Rattle.sim_cloud.specs.Simulated.{beside_of}
use Rattle.sim_cloud.proofs.Effects.{noted}
use Rattle.sim_cloud.proofs.Clauses.{gone_removed}
use Rattle.sim_cloud.proofs.Inventories.{with_trace}
use Rattle.sim_cloud.proofs.inventory.Inventory.let_go_at.Goals as goal

pub returns-clause-ok : goal.returns-clause-ok
returns-clause-ok c h at leaving =
    rw c.let_go.ensures (gone_removed c.args.self.now.held.all (beside_of c.args.self.now) (with_trace c.args.self.now c.note.new.trace) c.args.token.now c.args.at h c.args.self.now.held.fit c.requires at leaving (noted _ _ (beside_of c.args.self.now) (with_trace c.args.self.now c.note.new.trace) _ c.in_ok-note.ensures.ok (omega arith) refl))
