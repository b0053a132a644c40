-- What was found first, or that nothing was.
use Rattle.std.proofs.Common.{Ok, ap, refl, ◌∙◌}
use Rattle.book.specs.Openings.{agrees, disagrees, lacking}
use Rattle.book.specs.Openings as openings
use Rattle.book.proofs.Openers.{nothing_found, this_found}
use Rattle.book.proofs.admitting.compared.Goals as goal

pub returns-in-Ok-None : goal.returns-in-Ok-None
returns-in-Ok-None c old new lists = agrees c.args.all.now lists
    (nothing_found _ _ old new lists (c.compare.ensures.nothing (c.in-Ok-None.is ∙ ap Ok c.in-Ok-None.field-0-is))) refl

pub returns-in-Ok-Some : goal.returns-in-Ok-Some
returns-in-Ok-Some c old new lists = disagrees c.args.all.now c.in-Ok-Some.token c.in-Ok-Some.finding lists
    (this_found _ _ old new lists c.in-Ok-Some.token c.in-Ok-Some.finding
    (c.compare.ensures.found c.in-Ok-Some.token c.in-Ok-Some.finding
    (c.in-Ok-Some.is ∙ ap Ok c.in-Ok-Some.field-0-is))) refl

pub returns-in-Err : goal.returns-in-Err
returns-in-Err c old new lists = lacking (openings.listed c.args.all.now lists) refl
