use Rattle.std.proofs.Common.{◌∙◌, ap, sym}
use Rattle.heat_plan.specs.Tables.{cut}
use Rattle.keyed_table.proofs.Tables.{at-place, at-nowhere, cut-remove, cut-nowhere, passes_there, none_passes}
use Rattle.keyed_table.proofs.list_table.ListTable.take.Goals as goal

pub returns-in-Some-clause-item : goal.returns-in-Some-clause-item
returns-in-Some-clause-item g c = sym (at-place g.T.Keyed.same g.T.Keyed.key_of c.args.key.now c.args.self.now.items c.in-Some.place (sym c.find.ensures.place ∙ c.in-Some.is) ∙ c.remove-item.ensures.item)

pub returns-in-Some-clause-items : goal.returns-in-Some-clause-items
returns-in-Some-clause-items g c = c.cut.ensures.items ∙ ap (cut g.T.Keyed.same g.T.Keyed.key_of c.args.key.now) c.remove-item.ensures.rest
    ∙ cut-remove g.T.Keyed.same g.T.Keyed.key_of c.args.key.now c.args.self.now.items c.in-Some.place c.in-Some.ensures.within
    (passes_there g.T.Keyed.same g.T.Keyed.key_of c.args.key.now c.args.self.now.items c.in-Some.place (sym c.find.ensures.place ∙ c.in-Some.is))

pub returns-in-None-clause-item : goal.returns-in-None-clause-item
returns-in-None-clause-item g c = sym (at-nowhere g.T.Keyed.same g.T.Keyed.key_of c.args.key.now c.args.self.now.items (sym c.find.ensures.place ∙ c.in-None.is))

pub returns-in-None-clause-items : goal.returns-in-None-clause-items
returns-in-None-clause-items g c = sym (cut-nowhere g.T.Keyed.same g.T.Keyed.key_of c.args.key.now c.args.self.now.items
    (none_passes g.T.Keyed.same g.T.Keyed.key_of c.args.key.now c.args.self.now.items (sym c.find.ensures.place ∙ c.in-None.is)))
