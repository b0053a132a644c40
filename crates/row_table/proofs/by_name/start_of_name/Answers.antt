use Rattle.std.proofs.Common.{rules, of_calls}
use Rattle.std.proofs.lemmas.Fn.{always_returns_same}
use Rattle.keyed_table.specs.Orders.{passes_at}
use Rattle.keyed_table.proofs.Searches.{searched}
use Rattle.row_table.specs.Keys.{name_of, name_cmp, name_key, name_below}
use Rattle.row_table.proofs.RowOrders.{name_total, name_exact, sorting}
use Rattle.row_table.proofs.by_name.start_of_name.Goals as goal

pub returns : goal.returns
returns c =
    searched name_key name_below (λ k. name_below k ((c.args.stack.now, c.args.name.now), c.args.no)) c.args.rows.now c.args.places.now.items c.requires.0 c.requires.1
    (λ a b lt t. (sorting name_cmp name_total name_exact name_of).onward a b ((c.args.stack.now, c.args.name.now), c.args.no) lt t) c.as_slice.result.now c.as_slice.ensures c.partition_point.result c.partition_point.ensures.bound
    (c.partition_point.ensures.partitioned (passes_at (λ r. name_below (name_key r) ((c.args.stack.now, c.args.name.now), c.args.no)) c.args.rows.now)
    (always_returns_same _ _ _ (λ a r f k. search (rules, of_calls))))
