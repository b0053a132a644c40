use Rattle.heat_plan.specs.declared.calls.Request.TheVariants as ask
use Rattle.std.proofs.Common.{inr}
use Rattle.sim_cloud.proofs.Inventories.{has_failed, made_late}
use Rattle.sim_cloud.proofs.inventory.Inventory.create_late.Goals as goal

pub returns-clause-ok : goal.returns-clause-ok
returns-clause-ok c =
    has_failed c.args.self.now c.begin_create.new.self c.count_fault.new.self c.args.token.now (ask.Create c.args.kind.now.name c.args.props.now) (record { faults = c.count_fault.ensures.faults; later = c.count_fault.ensures.later; held = c.count_fault.ensures.held; quotas = c.count_fault.ensures.quotas; trace = c.count_fault.ensures.trace }) c.begin_create.ensures.faults
    c.in_ok-begin_create.ensures.noted (inr c.in_ok-begin_create.ensures.effect)

pub returns-clause-late : goal.returns-clause-late
returns-clause-late c = made_late c.args.self.now c.begin_create.new.self c.count_fault.new.self c.args.token.now c.args.kind.now c.args.props.now c.args.left (record { faults = c.count_fault.ensures.faults; later = c.count_fault.ensures.later; held = c.count_fault.ensures.held; quotas = c.count_fault.ensures.quotas; trace = c.count_fault.ensures.trace }) c.in_ok-begin_create.ensures.effect c.in_ok-begin_create.ensures.made
