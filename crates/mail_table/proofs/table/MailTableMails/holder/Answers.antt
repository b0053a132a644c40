use Rattle.std.proofs.Common.{◌≡◌, ap, subst}
use Rattle.mail_table.specs.Holders.{IsHolder}
use Rattle.mail_table.proofs.table.MailTableMails.holder.Goals as goal

pub returns : goal.returns
returns c =
    let e : c.self.inside.jobs.items ≡ c.args.self.now.mail.jobs = ap (λ v. v.mail.jobs) c.self.view_is in
    subst (λ js. IsHolder js c.args.stack.now c.args.row c.holder.result) e c.holder.ensures
