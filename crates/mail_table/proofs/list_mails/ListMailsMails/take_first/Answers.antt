use Rattle.std.proofs.Common.{◌≡◌, ◌∙◌, sym, ap}
use Rattle.mail_table.specs.Mail.{Mail, without_letter}
use Rattle.mail_table.specs.Mails.{letter_at}
use Rattle.mail_table.proofs.Finding.{first_found, taken_found}
use Rattle.mail_table.proofs.list_mails.ListMailsMails.take_first.Goals as goal

pub returns-in-Some-clause-first : goal.returns-in-Some-clause-first
returns-in-Some-clause-first c =
    let e : c.self.inside.letters.items ≡ c.args.self.now.mail.letters = ap (λ v. v.mail.letters) c.self.view_is in
    first_found c.args.self.now.mail.letters c.in-Some.no c.take.result c.in-Some.ensures (c.take.ensures.item ∙ ap (λ ls. letter_at ls c.in-Some.no) e)

pub returns-in-Some-clause-rest : goal.returns-in-Some-clause-rest
returns-in-Some-clause-rest c =
    let e : c.self.inside.letters.items ≡ c.args.self.now.mail.letters = ap (λ v. v.mail.letters) c.self.view_is in
    let old : Mail = record { letters = c.self.inside.letters.items; jobs = c.self.inside.jobs.items; next = c.self.inside.next } in
    let is : old ≡ c.args.self.now.mail = ap (λ v. v.mail) c.self.view_is in
    let cut : record { letters = c.take.new.self.items; jobs = c.self.inside.jobs.items; next = c.self.inside.next } ≡ without_letter c.in-Some.no old =
    ap (λ ls. record { letters = ls; jobs = c.self.inside.jobs.items; next = c.self.inside.next }) c.take.ensures.items in
    cut ∙ ap (without_letter c.in-Some.no) is
    ∙ sym (taken_found c.args.self.now.mail c.in-Some.no c.take.result c.in-Some.ensures (c.take.ensures.item ∙ ap (λ ls. letter_at ls c.in-Some.no) e))
