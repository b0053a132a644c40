use Rattle.std.proofs.Common.{◌≡◌, ◌∙◌, ap}
use Rattle.mail_table.specs.Mails.{letter_at}
use Rattle.mail_table.proofs.Finding.{first_found}
use Rattle.mail_table.proofs.list_mails.ListMailsMails.first.Goals as goal

pub returns-in-Some : goal.returns-in-Some
returns-in-Some c =
    let e : c.self.inside.letters.items ≡ c.args.self.now.mail.letters = ap (λ v. v.mail.letters) c.self.view_is in
    first_found c.args.self.now.mail.letters c.in-Some.no _ c.in-Some.ensures (c.get.ensures ∙ ap (λ ls. letter_at ls c.in-Some.no) e)
