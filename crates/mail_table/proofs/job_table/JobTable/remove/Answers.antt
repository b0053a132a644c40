use Rattle.std.proofs.Common.{◌≡◌, ◌<◌, length, ap, map, subst}
use Rattle.keyed_table.specs.Orders.{IsOrderBut}
use Rattle.mail_table.specs.ByRow.{row_key, row_below}
use Rattle.mail_table.proofs.JobOrders.{job_dropped}
use Rattle.mail_table.proofs.job_table.JobTable.remove.Goals as goal

pub invariant_of-self : goal.invariant_of-self
invariant_of-self c =
    let e : c.self.inside.jobs.items ≡ c.args.self.now.items = ap (λ v. v.items) c.self.view_is in
    job_dropped c.self.inside.jobs.items c.remove.new.self.items c.leave.new.places.items c.close_up.new.places.items c.args.place c.remove.ensures.rest c.close_up.ensures.places
    (rw (e) c.requires) (subst (λ ys. IsOrderBut row_below c.args.place (map row_key ys) c.leave.new.places.items) c.as_slice.ensures.items c.leave.ensures.others)
