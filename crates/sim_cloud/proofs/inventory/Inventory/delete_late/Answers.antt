use Rattle.heat_plan.specs.declared.calls.Request.TheVariants as ask
use Rattle.std.proofs.Common.{inr}
use Rattle.sim_cloud.proofs.Inventories.{has_failed, sent_late}
use Rattle.sim_cloud.proofs.inventory.Inventory.delete_late.Goals as goal

pub returns-clause-ok : goal.returns-clause-ok
returns-clause-ok c =
    has_failed c.args.self.now c.begin_delete.new.self c.count_fault.new.self c.args.token.now ask.Delete (record { faults = c.count_fault.ensures.faults; later = c.count_fault.ensures.later; held = c.count_fault.ensures.held; quotas = c.count_fault.ensures.quotas; trace = c.count_fault.ensures.trace }) c.begin_delete.ensures.faults
    c.in_ok-begin_delete.ensures.noted (inr c.in_ok-begin_delete.ensures.effect)

pub returns-clause-late : goal.returns-clause-late
returns-clause-late c = sent_late c.args.self.now c.begin_delete.new.self c.count_fault.new.self c.args.token.now c.args.left (record { faults = c.count_fault.ensures.faults; later = c.count_fault.ensures.later; held = c.count_fault.ensures.held; quotas = c.count_fault.ensures.quotas; trace = c.count_fault.ensures.trace }) c.in_ok-begin_delete.ensures.effect c.in_ok-begin_delete.ensures.made
