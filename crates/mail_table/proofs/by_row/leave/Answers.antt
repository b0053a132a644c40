use Rattle.std.proofs.Common.{map, subst}
use Rattle.keyed_table.specs.Orders.{IsStart}
use Rattle.mail_table.specs.ByRow.{row_of, row_key, row_below}
use Rattle.mail_table.proofs.JobOrders.{job_entry, job_left}
use Rattle.mail_table.proofs.by_row.leave.Goals as goal

pub remove-requires : goal.remove-requires
remove-requires c =
    (job_entry c.args.jobs.now c.args.places.now.items c.args.place c.start_of_row-at.result c.index-jobs-place.result c.requires.within c.index-jobs-place.is c.requires.whole
    (subst (λ e. IsStart (λ k. row_below k (row_of c.index-jobs-place.result, e)) (map row_key c.args.jobs.now) c.args.places.now.items c.start_of_row-at.result) c.get.ensures.value c.start_of_row-at.ensures)).0

pub returns-clause-others : goal.returns-clause-others
returns-clause-others c =
    job_left c.args.jobs.now c.args.places.now.items c.remove.new.self.items c.args.place c.start_of_row-at.result c.index-jobs-place.result c.remove.ensures.rest
    c.requires.within c.index-jobs-place.is c.requires.whole
    (subst (λ e. IsStart (λ k. row_below k (row_of c.index-jobs-place.result, e)) (map row_key c.args.jobs.now) c.args.places.now.items c.start_of_row-at.result) c.get.ensures.value c.start_of_row-at.ensures)
