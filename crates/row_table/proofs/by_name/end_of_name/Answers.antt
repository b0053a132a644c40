use Rattle.std.proofs.Common.{rules, of_calls}
use Rattle.std.specs.Prelude.{not}
use Rattle.std.specs.Ordering.{nat_cmp, is_gt}
use Rattle.std.proofs.lemmas.Fn.{always_returns_same}
use Rattle.keyed_table.specs.Orders.{passes_at}
use Rattle.keyed_table.proofs.Searches.{searched}
use Rattle.keyed_table.proofs.Sortings.{group_end}
use Rattle.row_table.specs.Keys.{name_of, name_cmp, name_key, name_below}
use Rattle.row_table.proofs.RowOrders.{name_total}
use Rattle.row_table.proofs.by_name.end_of_name.Goals as goal

pub returns : goal.returns
returns c =
    searched name_key name_below (λ k. not (is_gt (name_cmp k.0 (c.args.stack.now, c.args.name.now)))) c.args.rows.now c.args.places.now.items _ c.requires
    (group_end name_cmp nat_cmp name_total (c.args.stack.now, c.args.name.now)) c.as_slice.result.now c.as_slice.ensures c.partition_point.result c.partition_point.ensures.bound
    (c.partition_point.ensures.partitioned (passes_at (λ r. not (is_gt (name_cmp (name_of r) (c.args.stack.now, c.args.name.now)))) c.args.rows.now)
    (always_returns_same _ _ _ (λ a r f k. search (rules, of_calls))))
