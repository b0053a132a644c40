use Rattle.std.proofs.Common.{◌≡◌, Bor, option_map, ap, subst}
use Rattle.mail_table.specs.Holders.{IsFirst}
use Rattle.mail_table.specs.declared.mail.Letter.{Letter}
use Rattle.mail_table.proofs.Finding.{first_told}
use Rattle.mail_table.proofs.table.MailTableMails.first.Goals as goal

pub returns : goal.returns
returns c =
    let e : c.self.inside.letters.items ≡ c.args.self.now.mail.letters = ap (λ v. v.mail.letters) c.self.view_is in
    subst (λ ls. IsFirst ls (option_map (λ (l : Bor Letter). l.now) c.first.result)) e
    (first_told c.self.inside.letters.items c.first.result c.first.ensures.none c.first.ensures.there c.first.ensures.lowest)
