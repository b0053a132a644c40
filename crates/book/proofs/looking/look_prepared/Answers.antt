-- The step that was prepared for the answer is made, and the call is told.
use Rattle.std.proofs.Common.{ap, refl, subst, sym, ◌∙◌}
use Rattle.std.specs.Prelude.{◌≡◌}
use Rattle.heat_plan.specs.declared.calls.Answered.TheVariants as answer
use Rattle.heat_plan.specs.declared.calls.Request.{Request}
use Rattle.heat_plan.specs.declared.phase.Act.TheVariants.{Delete}
use Rattle.row_table.specs.declared.row.Row.{Row}
use Rattle.mail_table.specs.declared.mail.Stage.TheVariants.{Polling}
use Rattle.book.specs.Scenes.{Told}
use Rattle.book.proofs.Calling.{answer_storable, answered, going_to_look, looks_now, tells_some, workable_of}
use Rattle.book.proofs.Keepers.{itself}
use Rattle.book.proofs.Settings.{wants}
use Rattle.book.proofs.looking.look_prepared.Goals as goal

pub look-requires : goal.look-requires
look-requires g c =
    let k = c.requires.calls in
    let p = c.requires.made in
    going_to_look _ _ _ c.requires.workable c.args.e p.row p.called _ p.token k
    (ap (λ (r : Row). r.act) (sym (p.called Polling k)) ∙ c.requires.goes k)

pub returns-in-Gone : goal.returns-in-Gone
returns-in-Gone g c =
    let k = c.requires.calls in
    let p = c.requires.made in
    let goes : p.row.act ≡ Delete = ap (λ (r : Row). r.act) (sym (p.called Polling k)) ∙ c.requires.goes k in
    answered _ c.args.e p.row p.called _ _ _ _ _ _ _ _ _ _ answer.Gone _ _ p.token p.gone c.make_answered.ensures
    (λ r. subst (λ (a : Request). Told c.args.outcomes.token a answer.Gone (g.P.Provider.cloud c.args.cloud.now)
    (g.P.Provider.cloud c.look.new.cloud))
    (sym (looks_now _ c.args.e p.row p.called k goes r)) (c.look.ensures.gone c.in-Gone.is))

pub returns-in-NotYet : goal.returns-in-NotYet
returns-in-NotYet g c =
    let k = c.requires.calls in
    let p = c.requires.made in
    let goes : p.row.act ≡ Delete = ap (λ (r : Row). r.act) (sym (p.called Polling k)) ∙ c.requires.goes k in
    answered _ c.args.e p.row p.called _ _ _ _ _ _ _ _ _ _ answer.NotYet _ _ p.token p.not_yet c.make_answered-in-NotYet.ensures
    (λ r. subst (λ (a : Request). Told c.args.outcomes.token a answer.NotYet (g.P.Provider.cloud c.args.cloud.now)
    (g.P.Provider.cloud c.look.new.cloud))
    (sym (looks_now _ c.args.e p.row p.called k goes r)) (c.look.ensures.not_yet c.in-NotYet.is))

pub returns-in-Failed : goal.returns-in-Failed
returns-in-Failed g c =
    let k = c.requires.calls in
    let p = c.requires.made in
    let goes : p.row.act ≡ Delete = ap (λ (r : Row). r.act) (sym (p.called Polling k)) ∙ c.requires.goes k in
    answered _ c.args.e p.row p.called _ _ _ _ _ _ _ _ _ _ answer.Failed _ _ p.token p.failed c.make_answered-in-Failed.ensures
    (λ r. subst (λ (a : Request). Told c.args.outcomes.token a answer.Failed (g.P.Provider.cloud c.args.cloud.now)
    (g.P.Provider.cloud c.look.new.cloud))
    (sym (looks_now _ c.args.e p.row p.called k goes r)) (c.look.ensures.failed c.in-Failed.is))

pub make_answered-requires-clause-storable : goal.make_answered-requires-clause-storable
make_answered-requires-clause-storable g c = answer_storable _ (workable_of _ _ _ c.requires.workable) c.args.e
    answer.Gone _ c.requires.made.gone

pub make_answered-requires-clause-tells : goal.make_answered-requires-clause-tells
make_answered-requires-clause-tells g c = tells_some _ c.args.e answer.Gone _ c.requires.made.gone

pub make_answered-requires-in-NotYet-clause-storable : goal.make_answered-requires-in-NotYet-clause-storable
make_answered-requires-in-NotYet-clause-storable g c = answer_storable _ (workable_of _ _ _ c.requires.workable) c.args.e
    answer.NotYet _ c.requires.made.not_yet

pub make_answered-requires-in-NotYet-clause-tells : goal.make_answered-requires-in-NotYet-clause-tells
make_answered-requires-in-NotYet-clause-tells g c = tells_some _ c.args.e answer.NotYet _ c.requires.made.not_yet

pub make_answered-requires-in-Failed-clause-storable : goal.make_answered-requires-in-Failed-clause-storable
make_answered-requires-in-Failed-clause-storable g c = answer_storable _ (workable_of _ _ _ c.requires.workable) c.args.e
    answer.Failed _ c.requires.made.failed

pub make_answered-requires-in-Failed-clause-tells : goal.make_answered-requires-in-Failed-clause-tells
make_answered-requires-in-Failed-clause-tells g c = tells_some _ c.args.e answer.Failed _ c.requires.made.failed

pub returns-in-Memory : goal.returns-in-Memory
returns-in-Memory g c = wants c.args.e _ _ _ _ _ _ _ _ _ _ _ (g.met.K.Keeper.lawful _) refl refl (itself _) refl
    c.requires.ready (c.look.ensures.memory c.in-Memory.is)
