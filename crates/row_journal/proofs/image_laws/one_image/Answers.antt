use Rattle.row_journal.proofs.Found.{image_same}
use Rattle.row_journal.proofs.image_laws.one_image.Goals as goal

pub returns : goal.returns
returns c = image_same
