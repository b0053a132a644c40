use Rattle.std.proofs.Common.{◌≡◌, ◌∙◌, ◌+◌, List, Some, length, get_or, sym, ap, subst, arith}
use Rattle.mail_table.specs.declared.mail.Letter.{Letter}
use Rattle.mail_table.proofs.Finding.{LowestSoFar, lowest_more, lowest_whole}
use Rattle.mail_table.proofs.list_mails.ListMails.lowest.Goals as goal

pub loop-letter-preserved : goal.loop-letter-preserved
loop-letter-preserved c =
    let e : c.as_slice-letter-items.result.now ≡ c.args.self.now.mail.letters = c.as_slice-letter-items.ensures ∙ ap (λ v. v.mail.letters) c.self.view_is in
    subst (λ n. LowestSoFar c.args.self.now.mail.letters (c.loop-letter.letter-index + 1) (Some n)) (sym c.lesser_letter.ensures)
    (lowest_more c.args.self.now.mail.letters c.loop-letter.letter-index c.loop-letter.lowest c.letter-item.result
    (omega (arith, c.loop-letter-test.true, ap (λ (ls : List Letter). length ls) e))
    (c.letter-item.is ∙ ap (λ ls. get_or ls c.loop-letter.letter-index c.letter-item.result) e) c.loop-letter.invariant)

pub returns : goal.returns
returns c =
    let e : c.as_slice-letter-items.result.now ≡ c.args.self.now.mail.letters = c.as_slice-letter-items.ensures ∙ ap (λ v. v.mail.letters) c.self.view_is in
    lowest_whole c.args.self.now.mail.letters c.loop-letter.letter-index c.loop-letter.lowest
    (omega (arith, c.loop-letter-test.false, c.loop-letter.auto.letter-index-end, ap (λ (ls : List Letter). length ls) e)) c.loop-letter.invariant
