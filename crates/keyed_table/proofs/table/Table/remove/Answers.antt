use Rattle.std.proofs.Common.{◌≡◌, ◌<◌, ◌∙◌, length, map, ap}
use Rattle.keyed_table.specs.Orders.{closed}
use Rattle.keyed_table.proofs.Tables.{remove_keeps, remove_within, entry_there}
use Rattle.keyed_table.proofs.table.Table.remove.Goals as goal

pub remove-requires : goal.remove-requires
remove-requires g c =
    let e : c.self.inside.all.items ≡ c.args.self.now.items = ap (λ v. v.items) c.self.view_is in
    let l : c.args.place < length c.self.inside.all.items = rw (e) c.requires in
    (entry_there g.T.Keyed.key_of g.T.Keyed.same g.T.Keyed.below g.met.T.Keyed.sorts c.self.inside.all.items c.self.inside.places.items c.self.invariant c.args.place c.start_of-at.result c.key.result.now c.as_slice-items.result.now c.index-items-place.result c.as_slice-items.ensures l
    c.index-items-place.is c.key.ensures c.start_of-at.ensures).0

pub invariant_of-self : goal.invariant_of-self
invariant_of-self g c =
    let e : c.self.inside.all.items ≡ c.args.self.now.items = ap (λ v. v.items) c.self.view_is in
    let l : c.args.place < length c.self.inside.all.items = rw (e) c.requires in
    let (lt, is) = entry_there g.T.Keyed.key_of g.T.Keyed.same g.T.Keyed.below g.met.T.Keyed.sorts c.self.inside.all.items c.self.inside.places.items c.self.invariant c.args.place c.start_of-at.result c.key.result.now c.as_slice-items.result.now c.index-items-place.result c.as_slice-items.ensures l
    c.index-items-place.is c.key.ensures c.start_of-at.ensures in
    remove_keeps g.T.Keyed.key_of g.T.Keyed.same g.T.Keyed.below g.met.T.Keyed.sorts c.self.inside.all.items c.self.inside.places.items c.self.invariant c.remove-item.new.self.items c.close_up.new.places.items c.args.place c.start_of-at.result c.remove-item.ensures.rest
    (c.close_up.ensures.places ∙ ap (map (closed c.args.place)) c.remove.ensures.rest) l lt is

pub close_up-requires : goal.close_up-requires
close_up-requires g c =
    let e : c.self.inside.all.items ≡ c.args.self.now.items = ap (λ v. v.items) c.self.view_is in
    let l : c.args.place < length c.self.inside.all.items = rw (e) c.requires in
    let (lt, is) = entry_there g.T.Keyed.key_of g.T.Keyed.same g.T.Keyed.below g.met.T.Keyed.sorts c.self.inside.all.items c.self.inside.places.items c.self.invariant c.args.place c.start_of-at.result c.key.result.now c.as_slice-items.result.now c.index-items-place.result c.as_slice-items.ensures l
    c.index-items-place.is c.key.ensures c.start_of-at.ensures in
    remove_within g.T.Keyed.key_of g.T.Keyed.same g.T.Keyed.below g.met.T.Keyed.sorts c.self.inside.all.items c.self.inside.places.items c.self.invariant c.remove.new.self.items c.args.place c.start_of-at.result (length c.as_slice.result.now) c.remove.ensures.rest
    l lt is (ap length (c.as_slice.ensures ∙ c.remove-item.ensures.rest))
