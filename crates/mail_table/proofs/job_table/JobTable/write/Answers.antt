use Rattle.std.proofs.Common.{◌∙◌, map, subst}
use Rattle.keyed_table.specs.Orders.{IsOrderBut}
use Rattle.mail_table.specs.ByRow.{row_key, row_below}
use Rattle.mail_table.proofs.JobOrders.{job_written}
use Rattle.mail_table.proofs.job_table.JobTable.write.Goals as goal

pub enter-requires-clause-others : goal.enter-requires-clause-others
enter-requires-clause-others c =
    job_written c.self.inside.jobs.items c.as_slice-2.result.now c.leave.new.places.items c.args.job c.args.place (c.as_slice-2.ensures.items ∙ c.set.ensures.items)
    (subst (λ ys. IsOrderBut row_below c.args.place (map row_key ys) c.leave.new.places.items) c.as_slice.ensures.items c.leave.ensures.others)
