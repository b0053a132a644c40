use Rattle.std.proofs.Common.{rules, of_calls}
use Rattle.std.proofs.lemmas.Fn.{always_returns_same}
use Rattle.keyed_table.specs.Orders.{passes_at}
use Rattle.keyed_table.proofs.Searches.{searched}
use Rattle.mail_table.specs.ByRow.{row_key, row_below}
use Rattle.mail_table.proofs.JobOrders.{row_sorting}
use Rattle.mail_table.proofs.by_row.start_of_row.Goals as goal

pub returns : goal.returns
returns c =
    searched row_key row_below (λ k. row_below k ((c.args.row, c.args.stack.now), c.args.engine)) c.args.jobs.now c.args.places.now.items c.requires.0 c.requires.1
    (λ a b lt t. row_sorting.onward a b ((c.args.row, c.args.stack.now), c.args.engine) lt t) c.as_slice.result.now c.as_slice.ensures c.partition_point.result c.partition_point.ensures.bound
    (c.partition_point.ensures.partitioned (passes_at (λ j. row_below (row_key j) ((c.args.row, c.args.stack.now), c.args.engine)) c.args.jobs.now)
    (always_returns_same _ _ _ (λ a r f k. search (rules, of_calls))))
