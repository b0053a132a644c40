use Rattle.std.proofs.Common.{ℕ, List, refl, sym, subst}
use Rattle.std.proofs.lemmas.List.{take_rest}
use Rattle.row_journal.specs.Forms.{AreRecords}
use Rattle.row_journal.proofs.Found.{none_plain}
use Rattle.row_journal.proofs.images.plain_image.Goals as goal

pub returns-in-None-2-clause-image : goal.returns-in-None-2-clause-image
returns-in-None-2-clause-image c i gives =
    none_plain c.args.bytes.now c.in-Some.version c.if-bytes-le9.false ((c.in-Some.ensures c.in-Some.version).0 refl)
    (λ payloads found. c.in_ok-read-in-Some.ensures.none c.in-None-2.is payloads
    (subst (λ (l : List ℕ). AreRecords c.in-Some.version 1 l payloads) (sym (take_rest c.args.bytes.now 8)) found))
    i.version i.payloads gives.1.plain
