use Rattle.mail_table.specs.declared.mail.Stage.TheVariants.{Asking}
use Rattle.step_ends.specs.Answers.{AnswersAsk}
use Rattle.step_ends.proofs.Called.{call_of, is_some, row_there, said_of}
use Rattle.step_ends.proofs.ask.asked.Goals as goal

pub job_at-job-requires : goal.job_at-job-requires
job_at-job-requires c = is_some _ _ c.requires.calls.works.its

pub row_at-row-requires : goal.row_at-row-requires
row_at-row-requires c = row_there _ _ _ c.requires.calls _ c.job_at-job.ensures

pub answered-requires-clause-call : goal.answered-requires-clause-call
answered-requires-clause-call c = call_of _ _ _ c.requires.calls _ _ c.job_at-job.ensures c.row_at-row.ensures

pub answered-requires-clause-answer : goal.answered-requires-clause-answer
answered-requires-clause-answer c = said_of _ c.args.e Asking
    (λ act. AnswersAsk act c.args.answer.now) c.job_at-job.result.now c.row_at-row.result.now
    c.requires.answer (call_of _ _ _ c.requires.calls _ _ c.job_at-job.ensures c.row_at-row.ensures)
