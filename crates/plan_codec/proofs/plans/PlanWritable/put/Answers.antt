use Rattle.plan_codec.proofs.plans.PlanWritable.put.Goals as goal

pub returns-clause-proper : goal.returns-clause-proper
returns-clause-proper c = record {
  items = rw c.items.ensures.value at c.put_items.ensures.proper;
  outputs = rw c.outputs.ensures at c.put_items-2.ensures.proper;
  params = rw c.params.ensures at c.put.ensures.proper;
  conds = rw c.conds.ensures at c.put-2.ensures.proper;
  files = rw c.files.ensures at c.put-3.ensures.proper;
  absent = rw c.absent.ensures at c.put_items-3.ensures.proper;
  plan = c.items.ensures.plan;
}
