use Rattle.std.proofs.Common.{◌≡◌, ◌∙◌, ◌++◌, ◌∷◌, [], All, Some, None, false, nat_eq, nat_lt, set, slice_get, option_map, sym, ap, subst}
use Rattle.std.specs.List.{position_from}
use Rattle.mail_table.specs.declared.mail.Job.{Job}
use Rattle.mail_table.specs.Mails.{job_key, put_job}
use Rattle.keyed_table.proofs.Puts.{put-at, put-none}
use Rattle.keyed_table.proofs.Sortings.{number_sorting}
use Rattle.keyed_table.proofs.Tables.{none_passes, key-there}
use Rattle.mail_table.proofs.job_table.JobTable.put.Goals as goal

pub write-requires-clause-same_key : goal.write-requires-clause-same_key
write-requires-clause-same_key c =
    let e : c.self.inside.jobs.items ≡ c.args.self.now.items = ap (λ v. v.items) c.self.view_is in
    subst (λ ys. option_map job_key (slice_get ys c.in-Some.place) ≡ Some (job_key c.args.job)) e
    (key-there nat_eq nat_lt number_sorting job_key c.key.result.now c.self.inside.jobs.items c.in-Some.place c.in-Some.ensures.within (sym c.find.ensures.place ∙ c.in-Some.is) ∙ ap (λ k. Some k) c.key.ensures)

pub push-requires-clause-new_key : goal.push-requires-clause-new_key
push-requires-clause-new_key c =
    let e : c.self.inside.jobs.items ≡ c.args.self.now.items = ap (λ v. v.items) c.self.view_is in
    subst (λ ys. All (λ (x : Job). nat_eq x.engine c.args.job.engine ≡ false) ys) e (none_passes nat_eq job_key (job_key c.args.job) c.self.inside.jobs.items
    (subst (λ k. position_from (λ x. nat_eq (job_key x) k) 0 c.self.inside.jobs.items ≡ None) c.key.ensures (sym c.find.ensures.place ∙ c.in-None.is)))

pub returns-in-Some-clause-items : goal.returns-in-Some-clause-items
returns-in-Some-clause-items c =
    let e : c.self.inside.jobs.items ≡ c.args.self.now.items = ap (λ v. v.items) c.self.view_is in
    c.write.ensures.items ∙ subst (λ ys. set ys c.in-Some.place c.args.job ≡ put_job c.args.job ys) e (sym (put-at nat_eq job_key c.args.job c.self.inside.jobs.items c.in-Some.place
    (subst (λ k. position_from (λ x. nat_eq (job_key x) k) 0 c.self.inside.jobs.items ≡ Some c.in-Some.place) c.key.ensures (sym c.find.ensures.place ∙ c.in-Some.is))))

pub returns-in-None-clause-items : goal.returns-in-None-clause-items
returns-in-None-clause-items c =
    let e : c.self.inside.jobs.items ≡ c.args.self.now.items = ap (λ v. v.items) c.self.view_is in
    c.push.ensures.items ∙ subst (λ ys. ys ++ c.args.job ∷ [] ≡ put_job c.args.job ys) e (sym (put-none nat_eq job_key c.args.job c.self.inside.jobs.items
    (subst (λ k. position_from (λ x. nat_eq (job_key x) k) 0 c.self.inside.jobs.items ≡ None) c.key.ensures (sym c.find.ensures.place ∙ c.in-None.is))))
