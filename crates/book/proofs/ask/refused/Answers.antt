-- A create may be past the quota, and whatever is asked may fail.
use Rattle.std.proofs.Common.{ap, refl, ◌∙◌}
use Rattle.std.proofs.lemmas.Result.{IfOk-weaker}
use Rattle.heat_plan.specs.declared.calls.Answered.TheVariants as answer
use Rattle.row_table.specs.declared.row.Row.{Row}
use Rattle.mail_table.specs.declared.mail.Stage.TheVariants.{Asking}
use Rattle.takeover_steps.specs.Answers.{failed}
use Rattle.book.proofs.Calling.{answer_storable, asking_of}
use Rattle.book.proofs.ask.refused.Goals as goal

pub create_refused-requires-clause-creates : goal.create_refused-requires-clause-creates
create_refused-requires-clause-creates c k = ap (λ (r : Row). r.act) (c.requires.row Asking k) ∙ c.in-Create.is

pub ask_answered-requires-clause-answer : goal.ask_answered-requires-clause-answer
ask_answered-requires-clause-answer c k =
    failed (asking_of c.args.state.now.state c.args.e c.requires.workable.workable.jobs k) refl

pub returns-in-Create-clause-storable : goal.returns-in-Create-clause-storable
returns-in-Create-clause-storable c = IfOk-weaker c.create_refused.result _ _
    (λ both t. answer_storable _ c.requires.workable c.args.e answer.Quota both.0 t) c.create_refused.ensures.quota
