use Rattle.std.proofs.Common.{refl}
use Rattle.row_journal.proofs.journal.Journal.image.Goals as goal

pub returns-in-Err-Foreign-clause-foreign : goal.returns-in-Err-Foreign-clause-foreign
returns-in-Err-Foreign-clause-foreign g c tells same image is_image =
    c.in-Err-Foreign.ensures.foreign tells (rw c.in-Err-Foreign.field-0-is refl) image is_image
