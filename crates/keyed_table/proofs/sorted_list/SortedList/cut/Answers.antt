-- The record at the place that is found is taken out.
use Rattle.std.proofs.Common.{Some, sym, ap, ◌∙◌}
use Rattle.std.proofs.lemmas.Option.{slice_get-get_or}
use Rattle.keyed_table.proofs.SortedPlaces.{at_is, at_place, cut_is, cut_place}
use Rattle.keyed_table.proofs.SortedOrders.{sorted_cut}
use Rattle.keyed_table.proofs.Undone.{cut_back}
use Rattle.keyed_table.proofs.sorted_list.SortedList.cut.Goals as goal

pub invariant_of-self : goal.invariant_of-self
invariant_of-self g c =
    rw (c.remove.ensures.items
    ∙ ap (λ r. cut_place g.T.Ordered.order g.T.Ordered.key_of g.met.T.Ordered.total r c.self.inside.all.items)
    (sym c.in-Ok.is ∙ c.place_of.ensures.place)
    ∙ cut_is g.T.Ordered.order g.T.Ordered.key_of g.met.T.Ordered.total c.args.key.now c.self.inside.all.items)
    (sorted_cut g.T.Ordered.order g.T.Ordered.key_of g.met.T.Ordered.total c.args.key.now c.self.inside.all.items
    c.self.invariant)

pub returns-in-Ok-clause-items : goal.returns-in-Ok-clause-items
returns-in-Ok-clause-items g c = rw (← c.self.view_is) (
    c.remove.ensures.items
    ∙ ap (λ r. cut_place g.T.Ordered.order g.T.Ordered.key_of g.met.T.Ordered.total r c.self.inside.all.items)
    (sym c.in-Ok.is ∙ c.place_of.ensures.place)
    ∙ cut_is g.T.Ordered.order g.T.Ordered.key_of g.met.T.Ordered.total c.args.key.now c.self.inside.all.items)

pub returns-in-Ok-clause-before : goal.returns-in-Ok-clause-before
returns-in-Ok-clause-before g c = rw (← c.self.view_is) (sym (
    at_is g.T.Ordered.order g.T.Ordered.key_of g.met.T.Ordered.total c.args.key.now c.self.inside.all.items
    ∙ ap (λ r. at_place g.T.Ordered.order g.T.Ordered.key_of g.met.T.Ordered.total r c.self.inside.all.items)
    (sym c.place_of.ensures.place ∙ c.in-Ok.is)
    ∙ slice_get-get_or c.self.inside.all.items c.in-Ok.place c.remove.result c.in-Ok.ensures.found
    ∙ ap (λ x. Some x) (sym c.remove.ensures.value)))

pub returns-in-Ok-clause-back : goal.returns-in-Ok-clause-back
returns-in-Ok-clause-back g c =
    cut_back g.T.Ordered.order g.T.Ordered.key_of g.met.T.Ordered.total c.args.key.now c.args.self.now.items
    c.remove.new.self.items (Some c.remove.result)
    (rw (← c.self.view_is) c.self.invariant) (returns-in-Ok-clause-before g c) (returns-in-Ok-clause-items g c)

pub returns-in-Err-clause-items : goal.returns-in-Err-clause-items
returns-in-Err-clause-items g c = rw (← c.self.view_is) (
    ap (λ r. cut_place g.T.Ordered.order g.T.Ordered.key_of g.met.T.Ordered.total r c.self.inside.all.items)
    (sym c.in-Err.is ∙ c.place_of.ensures.place)
    ∙ cut_is g.T.Ordered.order g.T.Ordered.key_of g.met.T.Ordered.total c.args.key.now c.self.inside.all.items)

pub returns-in-Err-clause-before : goal.returns-in-Err-clause-before
returns-in-Err-clause-before g c = rw (← c.self.view_is) (sym (
    at_is g.T.Ordered.order g.T.Ordered.key_of g.met.T.Ordered.total c.args.key.now c.self.inside.all.items
    ∙ ap (λ r. at_place g.T.Ordered.order g.T.Ordered.key_of g.met.T.Ordered.total r c.self.inside.all.items)
    (sym c.place_of.ensures.place ∙ c.in-Err.is)))

pub returns-in-Err-clause-back : goal.returns-in-Err-clause-back
returns-in-Err-clause-back g c = sym (returns-in-Err-clause-items g c)
