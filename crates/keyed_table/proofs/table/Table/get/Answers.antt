use Rattle.std.proofs.Common.{◌≡◌, ◌∙◌, sym, ap, refl}
use Rattle.std.proofs.lemmas.Option.{slice_get_read}
use Rattle.keyed_table.proofs.Tables.{at-place, at-nowhere}
use Rattle.keyed_table.proofs.table.Table.get.Goals as goal

pub returns-in-Some : goal.returns-in-Some
returns-in-Some g c =
    let e : c.as_slice.result.now ≡ c.args.self.now.items = c.as_slice.ensures ∙ ap (λ v. v.items) c.self.view_is in
    sym (at-place g.T.Keyed.same g.T.Keyed.key_of c.args.key.now c.args.self.now.items c.in-Some.place (sym c.find.ensures.place ∙ c.in-Some.is)
    ∙ slice_get_read c.args.self.now.items _ c.in-Some.place c.index-as_slice-place.result refl c.in-Some.ensures.within (rw (← e) c.index-as_slice-place.is))

pub returns-in-None : goal.returns-in-None
returns-in-None g c = sym (at-nowhere g.T.Keyed.same g.T.Keyed.key_of c.args.key.now c.args.self.now.items (sym c.find.ensures.place ∙ c.in-None.is))
