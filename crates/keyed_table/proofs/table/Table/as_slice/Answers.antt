use Rattle.std.proofs.Common.{◌≡◌, ap, map, subst}
use Rattle.keyed_table.specs.Orders.{AreApart}
use Rattle.keyed_table.proofs.Orders.{one_place}
use Rattle.keyed_table.proofs.table.Table.as_slice.Goals as goal

pub returns-clause-apart : goal.returns-clause-apart
returns-clause-apart g c =
    let e : c.self.inside.all.items ≡ c.args.self.now.items = ap (λ v. v.items) c.self.view_is in
    subst (λ xs. AreApart (map g.T.Keyed.key_of xs)) e
    (one_place g.T.Keyed.same g.T.Keyed.below g.met.T.Keyed.sorts (map g.T.Keyed.key_of c.self.inside.all.items) c.self.inside.places.items c.self.invariant)
