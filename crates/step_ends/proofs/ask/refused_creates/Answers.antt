use Rattle.std.proofs.Common.{◌≡◌}
use Rattle.std.proofs.lemmas.Result.{IfErr-weaker}
use Rattle.heat_plan.specs.declared.phase.Act.TheVariants.{Create}
use Rattle.mail_table.specs.declared.mail.Stage.TheVariants.{Asking}
use Rattle.step_ends.proofs.Called.{call_of, is_some, row_there, said_of, turn_refusal}
use Rattle.step_ends.proofs.ask.refused_creates.Goals as goal

pub job_at-job-requires : goal.job_at-job-requires
job_at-job-requires c = is_some _ _ c.requires.calls.works.its

pub row_at-row-requires : goal.row_at-row-requires
row_at-row-requires c = row_there _ _ _ c.requires.calls _ c.job_at-job.ensures

pub refused_twice-requires-clause-call : goal.refused_twice-requires-clause-call
refused_twice-requires-clause-call c = call_of _ _ _ c.requires.calls _ _ c.job_at-job.ensures c.row_at-row.ensures

pub refused_twice-requires-clause-creates : goal.refused_twice-requires-clause-creates
refused_twice-requires-clause-creates c = said_of _ c.args.e Asking
    (λ act. act ≡ Create) c.job_at-job.result.now c.row_at-row.result.now
    c.requires.creates (call_of _ _ _ c.requires.calls _ _ c.job_at-job.ensures c.row_at-row.ensures)

pub returns-clause-cause : goal.returns-clause-cause
returns-clause-cause c = IfErr-weaker c.refused_twice.result _ _ (λ r k. turn_refusal _ _ _ r k) c.refused_twice.ensures.cause
