use Rattle.std.proofs.Common.{◌∙◌, ap, length}
use Rattle.std.specs.Cmp.Lexicographic.{nat_list_cmp_total}
use Rattle.std.proofs.lemmas.Map.Lookups.{exact_bytes}
use Rattle.keyed_table.specs.Sortings.{text_cmp}
use Rattle.row_table.specs.Keys.{name_of, name_cmp, stack_of}
use Rattle.row_table.proofs.RowOrders.{name_total, name_exact, row_pushed}
use Rattle.row_table.proofs.table.RowTable.push.Goals as goal

pub enter_by_name-requires-clause-others : goal.enter_by_name-requires-clause-others
enter_by_name-requires-clause-others c =
    row_pushed name_cmp name_total name_exact name_of c.self.inside.rows.items c.as_slice.result.now c.self.inside.by_name.items c.args.row _ (c.as_slice.ensures.items ∙ c.push.ensures.items)
    (ap (λ ys. length ys) c.as_slice-place.ensures.items) c.self.invariant.0

pub enter_by_stack-requires-clause-others : goal.enter_by_stack-requires-clause-others
enter_by_stack-requires-clause-others c =
    row_pushed text_cmp nat_list_cmp_total exact_bytes stack_of c.self.inside.rows.items c.as_slice-2.result.now c.self.inside.by_stack.items c.args.row _ (c.as_slice-2.ensures.items ∙ c.push.ensures.items)
    (ap (λ ys. length ys) c.as_slice-place.ensures.items) c.self.invariant.1
