use Rattle.std.proofs.Common.{◌≡◌, ap}
use Rattle.keyed_table.proofs.Tables.{rewrite_keeps}
use Rattle.keyed_table.proofs.table.Table.rewrite.Goals as goal

pub invariant_of-self : goal.invariant_of-self
invariant_of-self g c =
    let e : c.self.inside.all.items ≡ c.args.self.now.items = ap (λ v. v.items) c.self.view_is in
    rewrite_keeps g.T.Keyed.key_of g.T.Keyed.same g.T.Keyed.below g.met.T.Keyed.sorts c.self.inside.all.items c.self.inside.places.items
    c.self.invariant c.rewrite.new.self.items c.args.place (g.W.Rewrite.after c.args.words) (rw e c.requires.within) c.requires.same_key c.rewrite.ensures.items
