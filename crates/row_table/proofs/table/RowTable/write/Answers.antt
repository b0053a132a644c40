use Rattle.std.proofs.Common.{◌∙◌, map, subst}
use Rattle.std.specs.Cmp.Lexicographic.{nat_list_cmp_total}
use Rattle.std.proofs.lemmas.Map.Lookups.{exact_bytes}
use Rattle.keyed_table.specs.Orders.{IsOrderBut}
use Rattle.keyed_table.specs.Sortings.{text_cmp}
use Rattle.row_table.specs.Keys.{name_of, name_cmp, name_key, name_below, stack_of, stack_key, stack_below}
use Rattle.row_table.proofs.RowOrders.{name_total, name_exact, row_written}
use Rattle.row_table.proofs.table.RowTable.write.Goals as goal

pub enter_by_name-requires-clause-others : goal.enter_by_name-requires-clause-others
enter_by_name-requires-clause-others c =
    row_written name_cmp name_total name_exact name_of c.self.inside.rows.items c.as_slice-3.result.now c.leave_by_name.new.places.items c.args.row c.args.place (c.as_slice-3.ensures.items ∙ c.set.ensures.items)
    (subst (λ ys. IsOrderBut name_below c.args.place (map name_key ys) c.leave_by_name.new.places.items) c.as_slice.ensures.items c.leave_by_name.ensures.others)

pub enter_by_stack-requires-clause-others : goal.enter_by_stack-requires-clause-others
enter_by_stack-requires-clause-others c =
    row_written text_cmp nat_list_cmp_total exact_bytes stack_of c.self.inside.rows.items c.as_slice-4.result.now c.leave_by_stack.new.places.items c.args.row c.args.place (c.as_slice-4.ensures.items ∙ c.set.ensures.items)
    (subst (λ ys. IsOrderBut stack_below c.args.place (map stack_key ys) c.leave_by_stack.new.places.items) c.as_slice-2.ensures.items c.leave_by_stack.ensures.others)
