-- The record goes over the one at the place that is found, or in there.
use Rattle.std.proofs.Common.{Some, None, slice_set, sym, ap, ◌∙◌}
use Rattle.std.proofs.lemmas.Option.{slice_get-get_or}
use Rattle.keyed_table.proofs.SortedPlaces.{at_is, at_place, put_is, put_place}
use Rattle.keyed_table.proofs.SortedOrders.{sorted_put}
use Rattle.keyed_table.proofs.Undone.{put_back}
use Rattle.keyed_table.proofs.sorted_list.SortedList.put.Goals as goal

pub invariant_of-self : goal.invariant_of-self
invariant_of-self g c =
    rw (ap (λ x. slice_set c.self.inside.all.items c.in-Ok.place x) c.replace.ensures.after
    ∙ ap (λ r. put_place g.T.Ordered.order g.T.Ordered.key_of g.met.T.Ordered.total r c.args.item
    c.self.inside.all.items) (sym c.in-Ok.is ∙ rw c.key.ensures at c.place_of.ensures.place)
    ∙ put_is g.T.Ordered.order g.T.Ordered.key_of g.met.T.Ordered.total c.args.item c.self.inside.all.items)
    (sorted_put g.T.Ordered.order g.T.Ordered.key_of g.met.T.Ordered.total c.args.item c.self.inside.all.items
    c.self.invariant)

pub invariant_of-self-in-Err : goal.invariant_of-self-in-Err
invariant_of-self-in-Err g c =
    rw (c.in-Ok-insert.ensures.items
    ∙ ap (λ r. put_place g.T.Ordered.order g.T.Ordered.key_of g.met.T.Ordered.total r c.args.item
    c.self.inside.all.items) (sym c.in-Err.is ∙ rw c.key.ensures at c.place_of.ensures.place)
    ∙ put_is g.T.Ordered.order g.T.Ordered.key_of g.met.T.Ordered.total c.args.item c.self.inside.all.items)
    (sorted_put g.T.Ordered.order g.T.Ordered.key_of g.met.T.Ordered.total c.args.item c.self.inside.all.items
    c.self.invariant)

pub returns-in-Ok-clause-items : goal.returns-in-Ok-clause-items
returns-in-Ok-clause-items g c = rw (← c.self.view_is) (
    ap (λ x. slice_set c.self.inside.all.items c.in-Ok.place x) c.replace.ensures.after
    ∙ ap (λ r. put_place g.T.Ordered.order g.T.Ordered.key_of g.met.T.Ordered.total r c.args.item
    c.self.inside.all.items) (sym c.in-Ok.is ∙ rw c.key.ensures at c.place_of.ensures.place)
    ∙ put_is g.T.Ordered.order g.T.Ordered.key_of g.met.T.Ordered.total c.args.item c.self.inside.all.items)

pub returns-in-Ok-clause-before : goal.returns-in-Ok-clause-before
returns-in-Ok-clause-before g c = rw (← c.self.view_is) (sym (
    at_is g.T.Ordered.order g.T.Ordered.key_of g.met.T.Ordered.total
    (g.T.Ordered.key_of c.args.item) c.self.inside.all.items
    ∙ ap (λ r. at_place g.T.Ordered.order g.T.Ordered.key_of g.met.T.Ordered.total r c.self.inside.all.items)
    (sym (rw c.key.ensures at c.place_of.ensures.place) ∙ c.in-Ok.is)
    ∙ slice_get-get_or c.self.inside.all.items c.in-Ok.place c.index_mut.result.now c.in-Ok.ensures.found
    ∙ ap (λ x. Some x) (sym (c.replace.ensures.value ∙ c.index_mut.ensures.value))))

pub returns-in-Ok-clause-back : goal.returns-in-Ok-clause-back
returns-in-Ok-clause-back g c =
    put_back g.T.Ordered.order g.T.Ordered.key_of g.met.T.Ordered.total c.args.item c.args.self.now.items _
    (Some c.replace.result)
    (returns-in-Ok-clause-before g c) (returns-in-Ok-clause-items g c)

pub returns-in-Ok-insert-clause-items : goal.returns-in-Ok-insert-clause-items
returns-in-Ok-insert-clause-items g c = rw (← c.self.view_is) (
    c.in-Ok-insert.ensures.items
    ∙ ap (λ r. put_place g.T.Ordered.order g.T.Ordered.key_of g.met.T.Ordered.total r c.args.item
    c.self.inside.all.items) (sym c.in-Err.is ∙ rw c.key.ensures at c.place_of.ensures.place)
    ∙ put_is g.T.Ordered.order g.T.Ordered.key_of g.met.T.Ordered.total c.args.item c.self.inside.all.items)

pub returns-in-Ok-insert-clause-before : goal.returns-in-Ok-insert-clause-before
returns-in-Ok-insert-clause-before g c = rw (← c.self.view_is) (sym (
    at_is g.T.Ordered.order g.T.Ordered.key_of g.met.T.Ordered.total
    (g.T.Ordered.key_of c.args.item) c.self.inside.all.items
    ∙ ap (λ r. at_place g.T.Ordered.order g.T.Ordered.key_of g.met.T.Ordered.total r c.self.inside.all.items)
    (sym (rw c.key.ensures at c.place_of.ensures.place) ∙ c.in-Err.is)))

pub returns-in-Ok-insert-clause-back : goal.returns-in-Ok-insert-clause-back
returns-in-Ok-insert-clause-back g c =
    put_back g.T.Ordered.order g.T.Ordered.key_of g.met.T.Ordered.total c.args.item c.args.self.now.items
    c.insert.new.self.items None
    (returns-in-Ok-insert-clause-before g c) (returns-in-Ok-insert-clause-items g c)
