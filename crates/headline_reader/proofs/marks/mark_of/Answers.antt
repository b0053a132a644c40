use Rattle.std.proofs.Common.{◌∙◌, Option, sym, ap}
use Rattle.std.specs.Prelude.{option_map}
use Rattle.heat_plan.specs.Tables.{at}
use Rattle.step_relation.specs.Marked.{Mark, Marked}
use Rattle.headline_reader.specs.Marks.{marked_said}
use Rattle.headline_reader.proofs.marks.mark_of.Goals as goal

abbrev its_mark : Option Marked → Option Mark
its_mark it = option_map (λ (m : Marked). m.mark) it

pub returns-in-Some : goal.returns-in-Some
unfolding at
returns-in-Some c engines leaving = ap its_mark (sym (ap (option_map marked_said) c.in-Some.is) ∙ c.in_ok-newest.ensures)

pub returns-in-None : goal.returns-in-None
unfolding at
returns-in-None c engines leaving = ap its_mark (sym (ap (option_map marked_said) c.in-None.is) ∙ c.in_ok-newest.ensures)
