-- What stands at the place that is found is the record of the key.
use Rattle.std.proofs.Common.{Some, sym, ap, ◌∙◌}
use Rattle.std.proofs.lemmas.Option.{slice_get-get_or}
use Rattle.keyed_table.proofs.SortedPlaces.{at_is, at_place}
use Rattle.keyed_table.proofs.sorted_list.SortedList.get.Goals as goal

pub returns-in-Ok : goal.returns-in-Ok
returns-in-Ok g c = rw (← c.self.view_is) (sym (
    at_is g.T.Ordered.order g.T.Ordered.key_of g.met.T.Ordered.total c.args.key.now c.self.inside.all.items
    ∙ ap (λ r. at_place g.T.Ordered.order g.T.Ordered.key_of g.met.T.Ordered.total r c.self.inside.all.items)
    (sym c.place_of.ensures.place ∙ c.in-Ok.is)
    ∙ slice_get-get_or c.self.inside.all.items c.in-Ok.place c.index.result.now c.in-Ok.ensures.found
    ∙ ap (λ x. Some x) (sym c.index.ensures)))

pub returns-in-Err : goal.returns-in-Err
returns-in-Err g c = rw (← c.self.view_is) (sym (
    at_is g.T.Ordered.order g.T.Ordered.key_of g.met.T.Ordered.total c.args.key.now c.self.inside.all.items
    ∙ ap (λ r. at_place g.T.Ordered.order g.T.Ordered.key_of g.met.T.Ordered.total r c.self.inside.all.items)
    (sym c.place_of.ensures.place ∙ c.in-Err.is)))
