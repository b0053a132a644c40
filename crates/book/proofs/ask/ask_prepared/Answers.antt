-- The step that was prepared for the answer is made, and the call is told.
use Rattle.std.proofs.Common.{ap, refl, subst, sym, ◌∙◌}
use Rattle.heat_plan.specs.declared.calls.Answered.TheVariants as answer
use Rattle.row_table.specs.declared.row.Row.{Row}
use Rattle.mail_table.specs.declared.mail.Stage.TheVariants.{Asking}
use Rattle.step_relation.specs.Asks.{Asks}
use Rattle.step_relation.specs.Rows.{token_of}
use Rattle.book.proofs.Calling.{alive_to_update, answer_storable, answered, asks_now, created_by, request_of, tells_some}
use Rattle.book.proofs.Calling.{workable_of}
use Rattle.book.proofs.Keepers.{itself}
use Rattle.book.proofs.Settings.{wants}
use Rattle.book.proofs.ask.ask_prepared.Goals as goal

pub ask-requires-clause-asks : goal.ask-requires-clause-asks
ask-requires-clause-asks g c =
    let (asked, is) = request_of c.args.state.now.state c.args.e c.requires.workable.workable.jobs c.requires.calls in
    (asked, subst (λ (r : Row). Asks r asked) (c.called_row.ensures Asking c.requires.calls) is)

pub ask-requires-clause-alive : goal.ask-requires-clause-alive
ask-requires-clause-alive g c act =
    let k = c.requires.calls in
    alive_to_update _ _ _ c.requires.workable c.args.e _ c.called_row.ensures _
    (c.requires.made.token ∙ ap token_of (sym (c.requires.made.called Asking k) ∙ c.called_row.ensures Asking k)) k act

pub make_answered-requires-clause-storable : goal.make_answered-requires-clause-storable
make_answered-requires-clause-storable g c = answer_storable _ (workable_of _ _ _ c.requires.workable) c.args.e
    answer.Begun _ c.requires.made.begun

pub make_answered-requires-clause-tells : goal.make_answered-requires-clause-tells
make_answered-requires-clause-tells g c = tells_some _ c.args.e answer.Begun _ c.requires.made.begun

pub make_answered-requires-in-Quota-clause-storable : goal.make_answered-requires-in-Quota-clause-storable
make_answered-requires-in-Quota-clause-storable g c = c.requires.made.storable

pub make_answered-requires-in-Quota-clause-tells : goal.make_answered-requires-in-Quota-clause-tells
make_answered-requires-in-Quota-clause-tells g c =
    let k = c.requires.calls in
    let p = c.requires.made in
    let same = sym (p.called Asking k) ∙ c.called_row.ensures Asking k in
    let (asked, is) = request_of c.args.state.now.state c.args.e c.requires.workable.workable.jobs k in
    let its = subst (λ (r : Row). Asks r asked) (c.called_row.ensures Asking k) is in
    let (kind, props, create, told) = (c.ask.ensures asked its).quota c.in-Quota.is in
    let act = created_by _ asked kind props its create in
    tells_some _ c.args.e answer.Quota _ (p.quota (ap (λ (r : Row). r.act) same ∙ act))

pub make_answered-requires-in-Failed-clause-storable : goal.make_answered-requires-in-Failed-clause-storable
make_answered-requires-in-Failed-clause-storable g c = answer_storable _ (workable_of _ _ _ c.requires.workable) c.args.e
    answer.Failed _ c.requires.made.failed

pub make_answered-requires-in-Failed-clause-tells : goal.make_answered-requires-in-Failed-clause-tells
make_answered-requires-in-Failed-clause-tells g c = tells_some _ c.args.e answer.Failed _ c.requires.made.failed

pub returns-in-Begun : goal.returns-in-Begun
returns-in-Begun g c =
    let k = c.requires.calls in
    let p = c.requires.made in
    answered _ c.args.e _ c.called_row.ensures _ _ _ _ _ _ _ _ _ _ answer.Begun _ _
    (p.token ∙ ap token_of (sym (p.called Asking k) ∙ c.called_row.ensures Asking k)) p.begun c.make_answered.ensures
    (λ r. (c.ask.ensures r.asked (asks_now _ c.args.e _ c.called_row.ensures k r)).begun c.in-Begun.is)

pub returns-in-Quota : goal.returns-in-Quota
returns-in-Quota g c =
    let k = c.requires.calls in
    let p = c.requires.made in
    let same = sym (p.called Asking k) ∙ c.called_row.ensures Asking k in
    let (asked, is) = request_of c.args.state.now.state c.args.e c.requires.workable.workable.jobs k in
    let its = subst (λ (r : Row). Asks r asked) (c.called_row.ensures Asking k) is in
    let (kind, props, create, told) = (c.ask.ensures asked its).quota c.in-Quota.is in
    let act = created_by _ asked kind props its create in
    answered _ c.args.e _ c.called_row.ensures _ _ _ _ _ _ _ _ _ _ answer.Quota _ _ (p.token ∙ ap token_of same)
    (p.quota (ap (λ (r : Row). r.act) same ∙ act)) c.make_answered-in-Quota.ensures
    (λ r. let (kind_, props_, create_, told_) =
    (c.ask.ensures r.asked (asks_now _ c.args.e _ c.called_row.ensures k r)).quota c.in-Quota.is in told_)

pub returns-in-Failed : goal.returns-in-Failed
returns-in-Failed g c =
    let k = c.requires.calls in
    let p = c.requires.made in
    answered _ c.args.e _ c.called_row.ensures _ _ _ _ _ _ _ _ _ _ answer.Failed _ _
    (p.token ∙ ap token_of (sym (p.called Asking k) ∙ c.called_row.ensures Asking k)) p.failed
    c.make_answered-in-Failed.ensures
    (λ r. (c.ask.ensures r.asked (asks_now _ c.args.e _ c.called_row.ensures k r)).failed c.in-Failed.is)

pub returns-in-Memory : goal.returns-in-Memory
returns-in-Memory g c =
    let (asked, is) = request_of c.args.state.now.state c.args.e c.requires.workable.workable.jobs c.requires.calls in
    let its = subst (λ (r : Row). Asks r asked) (c.called_row.ensures Asking c.requires.calls) is in
    wants c.args.e _ _ _ _ _ _ _ _ _ _ _ (g.met.K.Keeper.lawful _) refl refl (itself _) refl c.requires.ready
    ((c.ask.ensures asked its).memory c.in-Memory.is)
