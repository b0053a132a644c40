-- The conditions that have a value.
use Rattle.std.specs.Prelude.{List}
use Rattle.heat_plan.specs.declared.conditions.Condition.{Condition}
use Rattle.heat_value.specs.Meaning.{members_of}
use Rattle.eval_words.specs.SoFar.{named_values}
use Rattle.eval_words.specs.declared.valued_conds.ValuedConds.{ValuedConds}
use Rattle.eval_words.specs.declared.valued_conds.ValuedConds.TheVariants.{All, SoFar}

-- what the known conditions of the program show
abbrev pub valued_data : ValuedConds → List Condition
valued_data (All conds) = conds.now
valued_data (SoFar found) = named_values (members_of found.conds.now) found.values.now
