-- What each function gives for its argument, once that is evaluated.
use Rattle.std.specs.Prelude.{List, Bool, not, Option, Some, Result, Ok, Err}
use Rattle.std.specs.Prelude.{option_map, option_and_then}
use Rattle.std.specs.Prelude.{[], ◌∷◌}
use Rattle.std.specs.List.{list_all, list_any}
use Rattle.heat_value.specs.Data.{Data, flag, Nodes, no_nodes, node}
use Rattle.eval_words.specs.Sorts.{wanted, flag_in, listed, two_of}
use Rattle.eval_words.specs.declared.code.FaultCode.{FaultCode}

-- ---- if

-- the value of the branch that was chosen; F01 where the condition has no value, so that none was
abbrev pub branch : Data → Result Data FaultCode
branch a = wanted (two_of (listed a)) (λ p. Ok p.1)

-- ---- not, and, or

-- the values of conditions; none where one of them has no value
abbrev pub flags_in : Nodes → Option (List Bool)
flags_in no_nodes = Some []
flags_in (node d ns) = option_and_then (λ b. option_map (λ bs. b ∷ bs) (flags_in ns)) (flag_in d)

-- the opposite of a condition's value; F01 where it has none
abbrev pub negated : Data → Result Data FaultCode
negated a = wanted (flag_in a) (λ b. Ok (flag (not b)))

-- whether all conditions of the list are true; F01 where one of them has no value
abbrev pub conjoined : Data → Result Data FaultCode
conjoined a = wanted (flags_in (listed a)) (λ bs. Ok (flag (list_all (λ b. b) bs)))

-- whether a condition of the list is true; F01 where one of them has no value
abbrev pub disjoined : Data → Result Data FaultCode
disjoined a = wanted (flags_in (listed a)) (λ bs. Ok (flag (list_any (λ b. b) bs)))

-- ---- get_param as a condition

-- F01 where what it gives isn't a flag
abbrev pub only_flag : Result Data FaultCode → Result Data FaultCode
only_flag (Ok d) = wanted (flag_in d) (λ b. Ok (flag b))
only_flag (Err c) = Err c
