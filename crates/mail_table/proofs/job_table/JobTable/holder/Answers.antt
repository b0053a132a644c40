use Rattle.std.proofs.Common.{◌≡◌, ◌∙◌, ℕ, List, length, map, get_or, is_eq, sym, ap, subst, subst₂}
use Rattle.keyed_table.specs.Orders.{AreApart, IsOrder, IsStart}
use Rattle.mail_table.specs.declared.mail.Job.{Job}
use Rattle.mail_table.specs.Mails.{job_key}
use Rattle.mail_table.specs.ByRow.{row_key, row_below}
use Rattle.mail_table.proofs.Holding.{none_past, none_there, holds_there}
use Rattle.mail_table.proofs.job_table.JobTable.holder.Goals as goal

pub returns-then-entries-at : goal.returns-then-entries-at
returns-then-entries-at c =
    let e : c.self.inside.jobs.items ≡ c.args.self.now.items = ap (λ v. v.items) c.self.view_is in
    none_past c.args.self.now.items (subst (λ ys. AreApart (map job_key ys)) e c.as_slice-jobs.ensures.apart) c.as_slice-entries.result.now
    (subst₂ (λ ys qs. IsOrder row_below (map row_key ys) qs) e (sym c.as_slice-entries.ensures) c.self.invariant) c.args.row c.args.stack.now c.start_of_row-at.result
    (subst₂ (λ ys qs. IsStart (λ k. row_below k ((c.args.row, c.args.stack.now), 0)) (map row_key ys) qs c.start_of_row-at.result) (c.as_slice-jobs.ensures.items ∙ e) (sym c.as_slice-entries.ensures) c.start_of_row-at.ensures)
    c.if-entries-at.true

pub returns-then-is_eq : goal.returns-then-is_eq
returns-then-is_eq c =
    let e : c.self.inside.jobs.items ≡ c.args.self.now.items = ap (λ v. v.items) c.self.view_is in
    holds_there c.args.self.now.items (subst (λ ys. AreApart (map job_key ys)) e c.as_slice-jobs.ensures.apart) c.as_slice-entries.result.now
    (subst₂ (λ ys qs. IsOrder row_below (map row_key ys) qs) e (sym c.as_slice-entries.ensures) c.self.invariant) c.args.row c.args.stack.now c.start_of_row-at.result
    (subst₂ (λ ys qs. IsStart (λ k. row_below k ((c.args.row, c.args.stack.now), 0)) (map row_key ys) qs c.start_of_row-at.result) (c.as_slice-jobs.ensures.items ∙ e) (sym c.as_slice-entries.ensures) c.start_of_row-at.ensures)
    c.if-entries-at.false c.index-jobs-entries.result (c.index-jobs-entries.is ∙ ap (λ ys. get_or ys (get_or c.as_slice-entries.result.now c.start_of_row-at.result 0) c.index-jobs-entries.result) (c.as_slice-jobs.ensures.items ∙ e))
    (ap is_eq (sym c.cmp_row.ensures) ∙ sym c.is_eq.ensures ∙ c.if-is_eq.true)

pub returns : goal.returns
returns c =
    let e : c.self.inside.jobs.items ≡ c.args.self.now.items = ap (λ v. v.items) c.self.view_is in
    none_there c.args.self.now.items (subst (λ ys. AreApart (map job_key ys)) e c.as_slice-jobs.ensures.apart) c.as_slice-entries.result.now
    (subst₂ (λ ys qs. IsOrder row_below (map row_key ys) qs) e (sym c.as_slice-entries.ensures) c.self.invariant) c.args.row c.args.stack.now c.start_of_row-at.result
    (subst₂ (λ ys qs. IsStart (λ k. row_below k ((c.args.row, c.args.stack.now), 0)) (map row_key ys) qs c.start_of_row-at.result) (c.as_slice-jobs.ensures.items ∙ e) (sym c.as_slice-entries.ensures) c.start_of_row-at.ensures)
    c.if-entries-at.false c.index-jobs-entries.result (c.index-jobs-entries.is ∙ ap (λ ys. get_or ys (get_or c.as_slice-entries.result.now c.start_of_row-at.result 0) c.index-jobs-entries.result) (c.as_slice-jobs.ensures.items ∙ e))
    (ap is_eq (sym c.cmp_row.ensures) ∙ sym c.is_eq.ensures ∙ c.if-is_eq.false)
