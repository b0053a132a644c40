use Rattle.std.proofs.Common.{◌≡◌, ◌∙◌, Some, None, sym, ap, subst}
use Rattle.std.specs.List.{position_from}
use Rattle.keyed_table.proofs.Puts.{put-at, put-none}
use Rattle.keyed_table.proofs.Tables.{none_passes, key-there}
use Rattle.keyed_table.proofs.table.Table.put.Goals as goal

pub set-requires-clause-same_key : goal.set-requires-clause-same_key
set-requires-clause-same_key g c =
    key-there g.T.Keyed.same g.T.Keyed.below g.met.T.Keyed.sorts g.T.Keyed.key_of c.key.result.now c.args.self.now.items c.in-Some.place c.in-Some.ensures.within (sym c.find.ensures.place ∙ c.in-Some.is)
    ∙ ap (λ k. Some k) c.key.ensures

pub push-requires-clause-new_key : goal.push-requires-clause-new_key
push-requires-clause-new_key g c = none_passes g.T.Keyed.same g.T.Keyed.key_of (g.T.Keyed.key_of c.args.item) c.args.self.now.items
    (subst (λ k. position_from (λ x. g.T.Keyed.same (g.T.Keyed.key_of x) k) 0 c.args.self.now.items ≡ None) c.key.ensures (sym c.find.ensures.place ∙ c.in-None.is))

pub returns-in-Some-clause-items : goal.returns-in-Some-clause-items
returns-in-Some-clause-items g c = c.set.ensures.items ∙ sym (put-at g.T.Keyed.same g.T.Keyed.key_of c.args.item c.args.self.now.items c.in-Some.place
    (subst (λ k. position_from (λ x. g.T.Keyed.same (g.T.Keyed.key_of x) k) 0 c.args.self.now.items ≡ Some c.in-Some.place) c.key.ensures (sym c.find.ensures.place ∙ c.in-Some.is)))

pub returns-in-None-clause-items : goal.returns-in-None-clause-items
returns-in-None-clause-items g c = c.push.ensures.items ∙ sym (put-none g.T.Keyed.same g.T.Keyed.key_of c.args.item c.args.self.now.items
    (subst (λ k. position_from (λ x. g.T.Keyed.same (g.T.Keyed.key_of x) k) 0 c.args.self.now.items ≡ None) c.key.ensures (sym c.find.ensures.place ∙ c.in-None.is)))
