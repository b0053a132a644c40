use Rattle.std.proofs.Common.{◌≡◌, ◌∙◌, List, length, ap, arith}
use Rattle.mail_table.specs.declared.mail.Job.{Job}
use Rattle.mail_table.proofs.Finding.{holder_whole}
use Rattle.mail_table.proofs.list_mails.ListMailsMails.holder.Goals as goal

pub returns : goal.returns
returns c =
    let e : c.as_slice-job-items.result.now ≡ c.args.self.now.mail.jobs = c.as_slice-job-items.ensures ∙ ap (λ v. v.mail.jobs) c.self.view_is in
    holder_whole c.args.self.now.mail.jobs c.args.stack.now c.args.row c.loop-job.job-index c.loop-job.holder
    (omega (arith, c.loop-job-test.false, c.loop-job.auto.job-index-end, ap (λ (js : List Job). length js) e)) c.loop-job.invariant
