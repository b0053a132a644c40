use Rattle.std.proofs.Common.{map, subst}
use Rattle.keyed_table.specs.Orders.{IsStart}
use Rattle.std.specs.Cmp.Lexicographic.{nat_list_cmp_total}
use Rattle.std.proofs.lemmas.Map.Lookups.{exact_bytes}
use Rattle.keyed_table.specs.Sortings.{text_cmp}
use Rattle.row_table.specs.Keys.{stack_of, stack_key, stack_below}
use Rattle.row_table.proofs.RowOrders.{row_entry, row_left}
use Rattle.row_table.proofs.by_stack.leave_by_stack.Goals as goal

pub remove-requires : goal.remove-requires
remove-requires c =
    (row_entry text_cmp nat_list_cmp_total exact_bytes stack_of c.args.rows.now c.args.places.now.items c.args.place c.start_of_stack-at.result c.index-rows-place.result c.requires.within c.index-rows-place.is c.requires.whole
    (subst (λ n. IsStart (λ k. stack_below k (stack_of c.index-rows-place.result, n)) (map stack_key c.args.rows.now) c.args.places.now.items c.start_of_stack-at.result) c.get.ensures.value c.start_of_stack-at.ensures)).0

pub returns-clause-others : goal.returns-clause-others
returns-clause-others c =
    row_left text_cmp nat_list_cmp_total exact_bytes stack_of c.args.rows.now c.args.places.now.items c.remove.new.self.items c.args.place c.start_of_stack-at.result c.index-rows-place.result c.remove.ensures.rest
    c.requires.within c.index-rows-place.is c.requires.whole
    (subst (λ n. IsStart (λ k. stack_below k (stack_of c.index-rows-place.result, n)) (map stack_key c.args.rows.now) c.args.places.now.items c.start_of_stack-at.result) c.get.ensures.value c.start_of_stack-at.ensures)
