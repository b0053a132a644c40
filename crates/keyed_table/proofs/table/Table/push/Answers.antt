use Rattle.std.proofs.Common.{◌≡◌, ◌∙◌, length, insert, map, ap, subst₂}
use Rattle.keyed_table.specs.Orders.{IsStart}
use Rattle.keyed_table.proofs.Tables.{push_keeps}
use Rattle.keyed_table.proofs.table.Table.push.Goals as goal

pub invariant_of-self : goal.invariant_of-self
invariant_of-self g c =
    let e : c.self.inside.all.items ≡ c.args.self.now.items = ap (λ v. v.items) c.self.view_is in
    push_keeps g.T.Keyed.key_of g.T.Keyed.same g.T.Keyed.below g.met.T.Keyed.sorts c.self.inside.all.items c.self.inside.places.items c.self.invariant c.push.new.self.items c.insert.new.self.items c.args.item c.start_of-at.result c.push.ensures.items
    (c.insert.ensures.items ∙ ap (λ xs. insert c.self.inside.places.items c.start_of-at.result (length xs)) c.as_slice-2.ensures) (rw (e) c.requires.new_key)
    (subst₂ (λ xs k. IsStart (λ j. g.T.Keyed.below j k) (map g.T.Keyed.key_of xs) c.self.inside.places.items c.start_of-at.result) c.as_slice.ensures c.key.ensures c.start_of-at.ensures)
