use Rattle.std.proofs.Common.{refl, inl, arith}
use Rattle.sim_cloud.specs.Simulated.{beside_of}
use Rattle.sim_cloud.proofs.Effects.{noted, stays}
use Rattle.sim_cloud.proofs.Inventories.{has_failed, with_trace}
use Rattle.sim_cloud.proofs.inventory.Inventory.fail.Goals as goal

pub returns-clause-ok : goal.returns-clause-ok
returns-clause-ok c =
    has_failed c.args.self.now (record c.args.self.now { trace = c.note.new.trace }) c.count_fault.new.self c.args.token.now c.args.request (record { faults = c.count_fault.ensures.faults; later = c.count_fault.ensures.later; held = c.count_fault.ensures.held; quotas = c.count_fault.ensures.quotas; trace = c.count_fault.ensures.trace }) refl
    (noted _ _ (beside_of c.args.self.now) (with_trace c.args.self.now c.note.new.trace) _ c.in_ok-note.ensures.ok (omega arith) refl) (inl (stays c.args.self.now.held.all (beside_of c.args.self.now) (with_trace c.args.self.now c.note.new.trace)))
