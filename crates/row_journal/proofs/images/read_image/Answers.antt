use Rattle.std.proofs.Common.{sym, ◌∙◌}
use Rattle.heat_disk.specs.declared.half.Half.TheVariants.{First, Second}
use Rattle.row_journal.proofs.Found.{found_at}
use Rattle.row_journal.proofs.images.read_image.Goals as goal

pub returns-in-First-clause-image : goal.returns-in-First-clause-image
returns-in-First-clause-image c =
    found_at (c.args.first.now, c.args.second.now) (c.read_header-of_first.result, c.read_header-of_second.result)
    c.read_header-of_first.ensures c.read_header-of_second.ensures First (sym c.live.ensures ∙ c.in-First.is) c.half_image.result c.half_image.ensures.image

pub returns-in-Second-clause-image : goal.returns-in-Second-clause-image
returns-in-Second-clause-image c =
    found_at (c.args.first.now, c.args.second.now) (c.read_header-of_first.result, c.read_header-of_second.result)
    c.read_header-of_first.ensures c.read_header-of_second.ensures Second (sym c.live.ensures ∙ c.in-Second.is) c.half_image-in-Second.result c.half_image-in-Second.ensures.image
