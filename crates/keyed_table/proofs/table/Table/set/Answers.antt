use Rattle.std.proofs.Common.{◌≡◌, ap}
use Rattle.keyed_table.proofs.Tables.{set_keeps}
use Rattle.keyed_table.proofs.table.Table.set.Goals as goal

pub invariant_of-self : goal.invariant_of-self
invariant_of-self g c =
    let e : c.self.inside.all.items ≡ c.args.self.now.items = ap (λ v. v.items) c.self.view_is in
    set_keeps g.T.Keyed.key_of g.T.Keyed.same g.T.Keyed.below g.met.T.Keyed.sorts c.self.inside.all.items c.self.inside.places.items c.self.invariant c.set.new.self.items c.args.place c.args.item c.set.ensures.items (rw (e) c.requires.same_key)
