use Rattle.std.proofs.Common.{◌≡◌, ◌∙◌, nat_eq, remove, sym, ap, subst}
use Rattle.mail_table.specs.Mails.{job_key, cut_job}
use Rattle.keyed_table.proofs.Tables.{cut-place, cut-nowhere, passes_there, none_passes}
use Rattle.mail_table.proofs.job_table.JobTable.cut.Goals as goal

pub returns-in-Some-clause-items : goal.returns-in-Some-clause-items
returns-in-Some-clause-items c =
    let e : c.self.inside.jobs.items ≡ c.args.self.now.items = ap (λ v. v.items) c.self.view_is in
    c.remove.ensures.rest ∙ subst (λ ys. remove ys c.in-Some.place ≡ cut_job c.args.engine ys) e (sym (cut-place nat_eq job_key c.args.engine c.self.inside.jobs.items c.in-Some.place c.in-Some.ensures.within
    (passes_there nat_eq job_key c.args.engine c.self.inside.jobs.items c.in-Some.place (sym c.find.ensures.place ∙ c.in-Some.is)) c.in-Some.ensures.alone))

pub returns-in_default-clause-items : goal.returns-in_default-clause-items
returns-in_default-clause-items c =
    let e : c.self.inside.jobs.items ≡ c.args.self.now.items = ap (λ v. v.items) c.self.view_is in
    subst (λ ys. ys ≡ cut_job c.args.engine ys) e (sym (cut-nowhere nat_eq job_key c.args.engine c.self.inside.jobs.items
    (none_passes nat_eq job_key c.args.engine c.self.inside.jobs.items (sym c.find.ensures.place ∙ c.in_default.is))))
