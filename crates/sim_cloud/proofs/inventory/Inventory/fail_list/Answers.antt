use Rattle.sim_cloud.proofs.Inventories.{lists_none}
use Rattle.sim_cloud.proofs.inventory.Inventory.fail_list.Goals as goal

pub returns-clause-ok : goal.returns-clause-ok
returns-clause-ok c = lists_none c.args.self.now c.count_fault.new.self c.push.new.self (record { faults = c.count_fault.ensures.faults; later = c.count_fault.ensures.later; held = c.count_fault.ensures.held; quotas = c.count_fault.ensures.quotas; trace = c.count_fault.ensures.trace }) c.in_ok-push.ensures.ok
