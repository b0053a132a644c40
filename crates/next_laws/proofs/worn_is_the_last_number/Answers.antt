use Rattle.next_laws.proofs.Ranges.{layout_wears, turn_wears}
use Rattle.next_laws.proofs.worn_is_the_last_number.Goals as goal

pub returns-clause-turn : goal.returns-clause-turn
returns-clause-turn c = turn_wears

pub returns-clause-layout : goal.returns-clause-layout
returns-clause-layout c = layout_wears
