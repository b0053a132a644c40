-- What the functions of lists give, and equality.
use Rattle.std.specs.Prelude.{ℕ, List, Option, Some, Result, Ok, Err, option_map, option_and_then}
use Rattle.std.specs.Prelude.{if◌then◌else◌}
use Rattle.heat_value.specs.Data.{Data, null, flag, whole, words, items, fields, Nodes, no_nodes, node}
use Rattle.hot_strings.specs.Answers.{is_part}
use Rattle.eval_words.specs.Sameness.{is_same, has}
use Rattle.eval_words.specs.Sorts.{wanted, text_in, list_in, list_or_null, listed, two_of}
use Rattle.eval_words.specs.declared.code.FaultCode.{FaultCode}
use Rattle.eval_words.specs.declared.code.FaultCode.TheVariants.{F01}

-- ---- list_concat and list_concat_unique

-- the values of the first list, then those of the second
abbrev pub both_lists : Nodes → Nodes → Nodes
both_lists no_nodes ps = ps
both_lists (node d ns) ps = node d (both_lists ns ps)

-- the items of all lists in order; null is skipped
abbrev pub concatenated : Nodes → Option Nodes
concatenated no_nodes = Some no_nodes
concatenated (node d ns) = option_and_then (λ l. option_map (both_lists l) (concatenated ns)) (list_or_null d)

-- the items of all lists in one; F01 where one of these is neither a list nor null
abbrev pub list_concat : Data → Result Data FaultCode
list_concat a = wanted (concatenated (listed a)) (λ ns. Ok (items ns))

-- each value at its first place only, where these came before
abbrev pub new_ones : Nodes → Nodes → Nodes
new_ones seen no_nodes = no_nodes
new_ones seen (node d ns) = if has d seen then new_ones seen ns else node d (new_ones (node d seen) ns)

-- the same, each value once
abbrev pub list_concat_unique : Data → Result Data FaultCode
list_concat_unique a = wanted (concatenated (listed a)) (λ ns. Ok (items (new_ones no_nodes ns)))

-- ---- filter

-- the list without these
abbrev pub without : Nodes → Nodes → Nodes
without out no_nodes = no_nodes
without out (node d ns) = if has d out then without out ns else node d (without out ns)

-- the second list without the values of the first; F01 where one of them is no list
abbrev pub filter_with : Data × Data → Result Data FaultCode
filter_with (out, from) = wanted (list_in out) (λ ns. wanted (list_in from) (λ ps. Ok (items (without ns ps))))

-- what is left of a list once some values are taken out; F01 where the argument isn't two lists
abbrev pub filter : Data → Result Data FaultCode
filter a = wanted (two_of (listed a)) filter_with

-- ---- contains

-- a text has the other as a part
abbrev pub contains_text : List ℕ → Data → Result Data FaultCode
contains_text s d = wanted (text_in d) (λ part. Ok (flag (is_part part s)))

-- a list has the value; or a text has it as a part
abbrev pub contains_in : Data → Data → Result Data FaultCode
contains_in d null = Err F01
contains_in d (flag b) = Err F01
contains_in d (whole z) = Err F01
contains_in d (words s) = contains_text s d
contains_in d (items ns) = Ok (flag (has d ns))
contains_in d (fields ms) = Err F01

-- whether the second has the first; F01 where the argument isn't two such values
abbrev pub contains : Data → Result Data FaultCode
contains a = wanted (two_of (listed a)) (λ p. contains_in p.0 p.1)

-- ---- equals

-- whether two values are one; F01 where the argument isn't two
abbrev pub equals : Data → Result Data FaultCode
equals a = wanted (two_of (listed a)) (λ p. Ok (flag (is_same p.0 p.1)))
