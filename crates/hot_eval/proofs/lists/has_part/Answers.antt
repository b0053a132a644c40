use Rattle.hot_strings.proofs.PlaceLemmas.{part_found}
use Rattle.hot_eval.proofs.Contained.{is_part-found}
use Rattle.hot_eval.proofs.lists.has_part.Goals as goal

pub returns : goal.returns
returns c =
    is_part-found c.args.part.now c.args.text.now c.contains.result
    (part_found c.args.part.now c.args.text.now c.contains.result c.contains.ensures.cases)
