use Rattle.std.proofs.Common.{Option, sym, subst}
use Rattle.row_journal.specs.declared.headers.Header.{Header}
use Rattle.row_journal.specs.Images.{Gives}
use Rattle.row_journal.specs.ShownImages.{Exactly}
use Rattle.row_journal.proofs.images.half_image.Goals as goal

pub returns-in-Some-clause-image : goal.returns-in-Some-clause-image
returns-in-Some-clause-image c =
    subst (λ (h : Option Header). Exactly (Gives c.args.half c.args.bytes.now h) c.born_image.result) (sym c.in-Some.is) c.born_image.ensures.image

pub returns-in-None-clause-image : goal.returns-in-None-clause-image
returns-in-None-clause-image c =
    subst (λ (h : Option Header). Exactly (Gives c.args.half c.args.bytes.now h) c.plain_image.result) (sym c.in-None.is) c.plain_image.ensures.image
