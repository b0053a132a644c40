use Rattle.std.proofs.Common.{refl, arith}
use Rattle.sim_cloud.specs.Simulated.{beside_of}
use Rattle.sim_cloud.proofs.Effects.{noted}
use Rattle.sim_cloud.proofs.Clauses.{gone_lingers}
use Rattle.sim_cloud.proofs.Inventories.{with_trace}
use Rattle.sim_cloud.proofs.inventory.Inventory.linger_at.Goals as goal

pub returns-clause-ok : goal.returns-clause-ok
returns-clause-ok c h at some leaving =
    rw (c.lower.ensures h at) (gone_lingers c.args.self.now.held.all (beside_of c.args.self.now) (with_trace c.args.self.now c.note.new.trace) c.args.token.now c.args.at h c.requires at some leaving (noted _ _ (beside_of c.args.self.now) (with_trace c.args.self.now c.note.new.trace) _ c.in_ok-note.ensures.ok (omega arith) refl))
