use Rattle.std.proofs.Common.{map, subst}
use Rattle.keyed_table.specs.Orders.{IsStart}
use Rattle.row_table.specs.Keys.{name_of, name_cmp, name_key, name_below}
use Rattle.row_table.proofs.RowOrders.{name_total, name_exact, row_entry, row_left}
use Rattle.row_table.proofs.by_name.leave_by_name.Goals as goal

pub remove-requires : goal.remove-requires
remove-requires c =
    (row_entry name_cmp name_total name_exact name_of c.args.rows.now c.args.places.now.items c.args.place c.start_of_name-at.result c.index-rows-place.result c.requires.within c.index-rows-place.is c.requires.whole
    (subst (λ n. IsStart (λ k. name_below k (name_of c.index-rows-place.result, n)) (map name_key c.args.rows.now) c.args.places.now.items c.start_of_name-at.result) c.get.ensures.value c.start_of_name-at.ensures)).0

pub returns-clause-others : goal.returns-clause-others
returns-clause-others c =
    row_left name_cmp name_total name_exact name_of c.args.rows.now c.args.places.now.items c.remove.new.self.items c.args.place c.start_of_name-at.result c.index-rows-place.result c.remove.ensures.rest
    c.requires.within c.index-rows-place.is c.requires.whole
    (subst (λ n. IsStart (λ k. name_below k (name_of c.index-rows-place.result, n)) (map name_key c.args.rows.now) c.args.places.now.items c.start_of_name-at.result) c.get.ensures.value c.start_of_name-at.ensures)
