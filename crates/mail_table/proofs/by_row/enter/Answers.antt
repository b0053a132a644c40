use Rattle.std.proofs.Common.{map, subst}
use Rattle.keyed_table.specs.Orders.{IsStart}
use Rattle.mail_table.specs.ByRow.{row_of, row_key, row_below}
use Rattle.mail_table.proofs.JobOrders.{job_entered}
use Rattle.mail_table.proofs.by_row.enter.Goals as goal

pub returns-clause-whole : goal.returns-clause-whole
returns-clause-whole c =
    job_entered c.args.jobs.now c.args.places.now.items c.insert.new.self.items c.args.place c.start_of_row-at.result c.index-jobs-place.result c.insert.ensures.items
    c.requires.within c.index-jobs-place.is c.requires.apart
    (subst (λ e. IsStart (λ k. row_below k (row_of c.index-jobs-place.result, e)) (map row_key c.args.jobs.now) c.args.places.now.items c.start_of_row-at.result) c.get.ensures.value c.start_of_row-at.ensures)
    c.requires.others
