use Rattle.std.proofs.Common.{rules, of_calls}
use Rattle.std.specs.Prelude.{not}
use Rattle.std.specs.Ordering.{nat_cmp, is_gt}
use Rattle.std.proofs.lemmas.Fn.{always_returns_same}
use Rattle.keyed_table.specs.Orders.{passes_at}
use Rattle.keyed_table.proofs.Searches.{searched}
use Rattle.keyed_table.proofs.Sortings.{group_end}
use Rattle.std.specs.Cmp.Lexicographic.{nat_list_cmp_total}
use Rattle.keyed_table.specs.Sortings.{text_cmp}
use Rattle.row_table.specs.Keys.{stack_of, stack_key, stack_below}
use Rattle.row_table.proofs.by_stack.end_of_stack.Goals as goal

pub returns : goal.returns
returns c =
    searched stack_key stack_below (λ k. not (is_gt (text_cmp k.0 c.args.stack.now))) c.args.rows.now c.args.places.now.items _ c.requires
    (group_end text_cmp nat_cmp nat_list_cmp_total c.args.stack.now) c.as_slice.result.now c.as_slice.ensures c.partition_point.result c.partition_point.ensures.bound
    (c.partition_point.ensures.partitioned (passes_at (λ r. not (is_gt (text_cmp (stack_of r) c.args.stack.now))) c.args.rows.now)
    (always_returns_same _ _ _ (λ a r f k. search (rules, of_calls))))
