use Rattle.std.proofs.Common.{◌≡◌, ◌<◌, ◌∙◌, length, map, ap, subst₂, get_or, sym, arith}
use Rattle.std.proofs.lemmas.List.{length-map}
use borrow.Author.Tests.{eqb-false}
use Rattle.keyed_table.specs.Orders.{IsOrder}
use Rattle.keyed_table.proofs.Orders.{one_place}
use Rattle.keyed_table.proofs.Tables.{at-own, at-first}
use Rattle.keyed_table.proofs.table.Table.first.Goals as goal

pub returns-clause-there : goal.returns-clause-there
returns-clause-there g c =
    let xs = c.args.self.now.items in
    let ps = c.as_slice-places.result.now in
    let e : c.self.inside.all.items ≡ xs = ap (λ v. v.items) c.self.view_is in
    let o : IsOrder g.T.Keyed.below (map g.T.Keyed.key_of xs) ps =
    subst₂ (λ ys qs. IsOrder g.T.Keyed.below (map g.T.Keyed.key_of ys) qs) e (sym c.as_slice-places.ensures) c.self.invariant in
    let l : 0 < length ps = omega (arith, eqb-false (length ps) 0 (sym c.is_empty.ensures ∙ c.if-is_empty.false)) in
    at-own g.T.Keyed.same g.T.Keyed.below g.met.T.Keyed.sorts g.T.Keyed.key_of xs (one_place g.T.Keyed.same g.T.Keyed.below g.met.T.Keyed.sorts (map g.T.Keyed.key_of xs) ps o)
    (get_or ps 0 0) (omega (arith, (o.within 0 l).0, length-map xs g.T.Keyed.key_of)) c.index-as_slice-places.result
    (c.index-as_slice-places.is ∙ ap (λ ys. get_or ys (get_or ps 0 0) c.index-as_slice-places.result) (c.as_slice.ensures ∙ e))

pub returns-clause-lowest : goal.returns-clause-lowest
returns-clause-lowest g c =
    let xs = c.args.self.now.items in
    let ps = c.as_slice-places.result.now in
    let e : c.self.inside.all.items ≡ xs = ap (λ v. v.items) c.self.view_is in
    let o : IsOrder g.T.Keyed.below (map g.T.Keyed.key_of xs) ps =
    subst₂ (λ ys qs. IsOrder g.T.Keyed.below (map g.T.Keyed.key_of ys) qs) e (sym c.as_slice-places.ensures) c.self.invariant in
    let l : 0 < length ps = omega (arith, eqb-false (length ps) 0 (sym c.is_empty.ensures ∙ c.if-is_empty.false)) in
    at-first g.T.Keyed.same g.T.Keyed.below g.met.T.Keyed.sorts g.T.Keyed.key_of xs ps o l c.index-as_slice-places.result
    (c.index-as_slice-places.is ∙ ap (λ ys. get_or ys (get_or ps 0 0) c.index-as_slice-places.result) (c.as_slice.ensures ∙ e))
