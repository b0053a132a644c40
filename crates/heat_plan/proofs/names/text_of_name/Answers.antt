use Rattle.heat_plan.proofs.NamesLemmas.{name_is_text}
use Rattle.heat_plan.proofs.names.text_of_name.Goals as goal

pub unreachable-requires : goal.unreachable-requires
unreachable-requires c = c.in-Err.ensures.cases.0 (name_is_text _ c.requires)
