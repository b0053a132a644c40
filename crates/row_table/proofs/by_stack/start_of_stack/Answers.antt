use Rattle.std.proofs.Common.{rules, of_calls}
use Rattle.std.proofs.lemmas.Fn.{always_returns_same}
use Rattle.keyed_table.specs.Orders.{passes_at}
use Rattle.keyed_table.proofs.Searches.{searched}
use Rattle.std.specs.Cmp.Lexicographic.{nat_list_cmp_total}
use Rattle.std.proofs.lemmas.Map.Lookups.{exact_bytes}
use Rattle.keyed_table.specs.Sortings.{text_cmp}
use Rattle.row_table.specs.Keys.{stack_of, stack_key, stack_below}
use Rattle.row_table.proofs.RowOrders.{sorting}
use Rattle.row_table.proofs.by_stack.start_of_stack.Goals as goal

pub returns : goal.returns
returns c =
    searched stack_key stack_below (λ k. stack_below k (c.args.stack.now, c.args.no)) c.args.rows.now c.args.places.now.items c.requires.0 c.requires.1
    (λ a b lt t. (sorting text_cmp nat_list_cmp_total exact_bytes stack_of).onward a b (c.args.stack.now, c.args.no) lt t) c.as_slice.result.now c.as_slice.ensures c.partition_point.result c.partition_point.ensures.bound
    (c.partition_point.ensures.partitioned (passes_at (λ r. stack_below (stack_key r) (c.args.stack.now, c.args.no)) c.args.rows.now)
    (always_returns_same _ _ _ (λ a r f k. search (rules, of_calls))))
