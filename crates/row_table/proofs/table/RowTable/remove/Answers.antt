use Rattle.std.proofs.Common.{◌≡◌, ◌<◌, length, ap, map, subst}
use Rattle.std.specs.Cmp.Lexicographic.{nat_list_cmp_total}
use Rattle.std.proofs.lemmas.Map.Lookups.{exact_bytes}
use Rattle.keyed_table.specs.Orders.{IsOrderBut}
use Rattle.keyed_table.specs.Sortings.{text_cmp}
use Rattle.row_table.specs.Keys.{name_of, name_cmp, name_key, name_below, stack_of, stack_key, stack_below}
use Rattle.row_table.proofs.RowOrders.{name_total, name_exact, row_dropped}
use Rattle.row_table.proofs.table.RowTable.remove.Goals as goal

pub invariant_of-self : goal.invariant_of-self
invariant_of-self c =
    let e : c.self.inside.rows.items ≡ c.args.self.now.items = ap (λ v. v.items) c.self.view_is in
    let l : c.args.place < length c.self.inside.rows.items = rw (e) c.requires in (
      row_dropped name_cmp name_total name_exact name_of c.self.inside.rows.items c.remove.new.self.items c.leave_by_name.new.places.items c.close_up.new.places.items c.args.place c.remove.ensures.rest c.close_up.ensures.places
          l (subst (λ ys. IsOrderBut name_below c.args.place (map name_key ys) c.leave_by_name.new.places.items) c.as_slice.ensures.items c.leave_by_name.ensures.others),
      row_dropped text_cmp nat_list_cmp_total exact_bytes stack_of c.self.inside.rows.items c.remove.new.self.items c.leave_by_stack.new.places.items c.close_up-2.new.places.items c.args.place c.remove.ensures.rest c.close_up-2.ensures.places
          l (subst (λ ys. IsOrderBut stack_below c.args.place (map stack_key ys) c.leave_by_stack.new.places.items) c.as_slice-2.ensures.items c.leave_by_stack.ensures.others),
    )
