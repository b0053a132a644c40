use Rattle.std.proofs.Common.{◌≡◌, ◌∙◌, ◌++◌, ◌∷◌, [], Some, None, set, sym, ap, subst}
use Rattle.std.specs.List.{position_from}
use Rattle.keyed_table.proofs.Puts.{put-at, put-none}
use Rattle.keyed_table.proofs.list_table.ListTable.put.Goals as goal

pub returns-in-Some-clause-items : goal.returns-in-Some-clause-items
returns-in-Some-clause-items g c =
    let e : c.self.inside.all.items ≡ c.args.self.now.items = ap (λ v. v.items) c.self.view_is in
    c.set.ensures.items ∙ ap (λ xs. set xs c.in-Some.place c.args.item) e ∙ sym (put-at g.T.Keyed.same g.T.Keyed.key_of c.args.item c.args.self.now.items c.in-Some.place
    (subst (λ k. position_from (λ x. g.T.Keyed.same (g.T.Keyed.key_of x) k) 0 c.args.self.now.items ≡ Some c.in-Some.place) c.key.ensures (sym c.find.ensures.place ∙ c.in-Some.is)))

pub returns-in-None-clause-items : goal.returns-in-None-clause-items
returns-in-None-clause-items g c =
    let e : c.self.inside.all.items ≡ c.args.self.now.items = ap (λ v. v.items) c.self.view_is in
    c.push.ensures.items ∙ ap (λ xs. xs ++ c.args.item ∷ []) e ∙ sym (put-none g.T.Keyed.same g.T.Keyed.key_of c.args.item c.args.self.now.items
    (subst (λ k. position_from (λ x. g.T.Keyed.same (g.T.Keyed.key_of x) k) 0 c.args.self.now.items ≡ None) c.key.ensures (sym c.find.ensures.place ∙ c.in-None.is)))
