-- The step of the answer is made, and the call is told.
use Rattle.std.proofs.Common.{ap, arith, refl, subst, sym, ◌∙◌}
use Rattle.std.specs.Prelude.{◌≢◌}
use Rattle.heat_plan.specs.declared.calls.Answered.TheVariants as answer
use Rattle.heat_plan.specs.declared.calls.Request.{Request}
use Rattle.heat_plan.specs.declared.phase.Act.TheVariants.{Delete}
use Rattle.row_table.specs.declared.row.Row.{Row}
use Rattle.mail_table.specs.declared.mail.Stage.TheVariants.{Polling}
use Rattle.step_relation.specs.Rows.{token_of}
use Rattle.takeover_steps.specs.Lost as lost
use Rattle.book.specs.Scenes.{Told}
use Rattle.book.proofs.Calling.{alive_to_poll, answer_storable, answered, learned, polls_now, tells_one, tells_some}
use Rattle.book.proofs.Calling.{workable_of}
use Rattle.book.proofs.Keepers.{itself}
use Rattle.book.proofs.Settings.{wants}
use Rattle.book.proofs.poll.poll_prepared.Goals as goal

pub poll-requires : goal.poll-requires
poll-requires g c =
    let k = c.requires.calls in
    let p = c.requires.made in
    alive_to_poll _ _ _ c.requires.workable c.args.e p.row p.called _ p.token k
    (λ d. c.requires.stays k (ap (λ (r : Row). r.act) (p.called Polling k) ∙ d))

pub learn-requires-clause-token : goal.learn-requires-clause-token
learn-requires-clause-token g c k = c.requires.made.token ∙ ap token_of (sym (c.requires.made.called Polling k))

pub learn-requires-clause-failed : goal.learn-requires-clause-failed
learn-requires-clause-failed g c = c.requires.made.failed

pub learn-requires-clause-size : goal.learn-requires-clause-size
learn-requires-clause-size g c = lost.ready c.in-Ready.facts

pub learn-requires-in-Broken-clause-token : goal.learn-requires-in-Broken-clause-token
learn-requires-in-Broken-clause-token g c k = c.requires.made.token ∙ ap token_of
    (sym (c.requires.made.called Polling k))

pub learn-requires-in-Broken-clause-failed : goal.learn-requires-in-Broken-clause-failed
learn-requires-in-Broken-clause-failed g c = c.requires.made.failed

pub learn-requires-in-Broken-clause-size : goal.learn-requires-in-Broken-clause-size
learn-requires-in-Broken-clause-size g c = lost.broken c.in-Broken.code

pub returns-in-NotYet : goal.returns-in-NotYet
returns-in-NotYet g c =
    let k = c.requires.calls in
    let p = c.requires.made in
    let stays : p.row.act ≢ Delete = λ d. c.requires.stays k (ap (λ (r : Row). r.act) (p.called Polling k) ∙ d) in
    answered _ c.args.e p.row p.called _ _ _ _ _ _ _ _ _ _ answer.NotYet _ _ p.token p.not_yet c.make_answered.ensures
    (λ r. subst (λ (a : Request). Told c.args.outcomes.token a answer.NotYet (g.P.Provider.cloud c.args.cloud.now)
    (g.P.Provider.cloud c.poll.new.cloud))
    (sym (polls_now _ c.args.e p.row p.called k stays r)) (c.poll.ensures.not_yet c.in-NotYet.is))

pub returns-in-Failed : goal.returns-in-Failed
returns-in-Failed g c =
    let k = c.requires.calls in
    let p = c.requires.made in
    let stays : p.row.act ≢ Delete = λ d. c.requires.stays k (ap (λ (r : Row). r.act) (p.called Polling k) ∙ d) in
    answered _ c.args.e p.row p.called _ _ _ _ _ _ _ _ _ _ answer.Failed _ _ p.token p.failed c.make_answered-in-Failed.ensures
    (λ r. subst (λ (a : Request). Told c.args.outcomes.token a answer.Failed (g.P.Provider.cloud c.args.cloud.now)
    (g.P.Provider.cloud c.poll.new.cloud))
    (sym (polls_now _ c.args.e p.row p.called k stays r)) (c.poll.ensures.failed c.in-Failed.is))

pub returns-in-Ready : goal.returns-in-Ready
returns-in-Ready g c =
    let k = c.requires.calls in
    let p = c.requires.made in
    let stays : p.row.act ≢ Delete = λ d. c.requires.stays k (ap (λ (r : Row). r.act) (p.called Polling k) ∙ d) in
    learned _ _ _ _ _ _ _ _ _ _ c.args.e p.row p.called _ _ _ p.token k stays c.learn.ensures
    (c.poll.ensures.ready _ c.in-Ready.is)

pub returns-in-Broken : goal.returns-in-Broken
returns-in-Broken g c =
    let k = c.requires.calls in
    let p = c.requires.made in
    let stays : p.row.act ≢ Delete = λ d. c.requires.stays k (ap (λ (r : Row). r.act) (p.called Polling k) ∙ d) in
    learned _ _ _ _ _ _ _ _ _ _ c.args.e p.row p.called _ _ _ p.token k stays c.learn-in-Broken.ensures
    (c.poll.ensures.broken _ c.in-Broken.is)

pub learn-requires-clause-page : goal.learn-requires-clause-page
learn-requires-clause-page g c =
    let one = tells_one _ c.args.e answer.NotYet c.args.outcomes.not_yet c.requires.made.not_yet in
    omega (arith, one, c.requires.room.not_yet.entries)

pub learn-requires-in-Broken-clause-page : goal.learn-requires-in-Broken-clause-page
learn-requires-in-Broken-clause-page g c =
    let one = tells_one _ c.args.e answer.NotYet c.args.outcomes.not_yet c.requires.made.not_yet in
    omega (arith, one, c.requires.room.not_yet.entries)

pub make_answered-requires-clause-storable : goal.make_answered-requires-clause-storable
make_answered-requires-clause-storable g c = answer_storable _ (workable_of _ _ _ c.requires.workable) c.args.e
    answer.NotYet _ c.requires.made.not_yet

pub make_answered-requires-clause-tells : goal.make_answered-requires-clause-tells
make_answered-requires-clause-tells g c = tells_some _ c.args.e answer.NotYet _ c.requires.made.not_yet

pub make_answered-requires-in-Failed-clause-storable : goal.make_answered-requires-in-Failed-clause-storable
make_answered-requires-in-Failed-clause-storable g c = answer_storable _ (workable_of _ _ _ c.requires.workable) c.args.e
    answer.Failed _ c.requires.made.failed

pub make_answered-requires-in-Failed-clause-tells : goal.make_answered-requires-in-Failed-clause-tells
make_answered-requires-in-Failed-clause-tells g c = tells_some _ c.args.e answer.Failed _ c.requires.made.failed

pub returns-in-Memory : goal.returns-in-Memory
returns-in-Memory g c = wants c.args.e _ _ _ _ _ _ _ _ _ _ _ (g.met.K.Keeper.lawful _) refl refl (itself _) refl
    c.requires.ready (c.poll.ensures.memory c.in-Memory.is)

pub learn-requires-clause-workable : goal.learn-requires-clause-workable
learn-requires-clause-workable g c = workable_of _ _ _ c.requires.workable

pub learn-requires-in-Broken-clause-workable : goal.learn-requires-in-Broken-clause-workable
learn-requires-in-Broken-clause-workable g c = workable_of _ _ _ c.requires.workable
