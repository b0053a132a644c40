use Rattle.std.proofs.Common.{◌≡◌, ap, subst}
use Rattle.mail_table.specs.Holders.{IsFirst}
use Rattle.mail_table.proofs.Finding.{first_taken}
use Rattle.mail_table.proofs.table.MailTableMails.take_first.Goals as goal

pub returns-in-Some-clause-first : goal.returns-in-Some-clause-first
returns-in-Some-clause-first c =
    let e : c.self.inside.letters.items ≡ c.args.self.now.mail.letters = ap (λ v. v.mail.letters) c.self.view_is in
    subst (λ ls. IsFirst ls c.take.result) e
    (first_taken c.self.inside.letters.items c.in-Some.letter.now c.take.result c.in-Some.ensures.there c.in-Some.ensures.lowest c.take.ensures.item).0
