use Rattle.std.proofs.Common.{ℕ, List, sym, subst}
use Rattle.std.proofs.lemmas.List.{take_rest}
use Rattle.row_journal.specs.Forms.{AreRecords}
use Rattle.row_journal.proofs.images.born_image.Goals as goal

pub returns-in-None-clause-image : goal.returns-in-None-clause-image
returns-in-None-clause-image c i gives =
    c.in_ok-read.ensures.none c.in-None.is i.payloads
    (subst (λ (l : List ℕ). AreRecords c.args.header.version 1 l i.payloads) (sym (take_rest c.args.bytes.now 16)) gives.1.born)
