use Rattle.heat_plan.specs.declared.calls.Request.TheVariants as ask
use Rattle.std.proofs.Common.{inr}
use Rattle.sim_cloud.proofs.Inventories.{has_failed, anew_late}
use Rattle.sim_cloud.proofs.inventory.Inventory.update_late.Goals as goal

pub returns-clause-ok : goal.returns-clause-ok
returns-clause-ok c =
    has_failed c.args.self.now c.begin_update.new.self c.count_fault.new.self c.args.token.now (ask.Update c.args.props.now) (record { faults = c.count_fault.ensures.faults; later = c.count_fault.ensures.later; held = c.count_fault.ensures.held; quotas = c.count_fault.ensures.quotas; trace = c.count_fault.ensures.trace }) c.begin_update.ensures.faults
    c.in_ok-begin_update.ensures.noted (inr c.in_ok-begin_update.ensures.effect)

pub returns-clause-late : goal.returns-clause-late
returns-clause-late c = anew_late c.args.self.now c.begin_update.new.self c.count_fault.new.self c.args.token.now c.args.props.now c.args.left (record { faults = c.count_fault.ensures.faults; later = c.count_fault.ensures.later; held = c.count_fault.ensures.held; quotas = c.count_fault.ensures.quotas; trace = c.count_fault.ensures.trace }) c.in_ok-begin_update.ensures.effect c.in_ok-begin_update.ensures.made
