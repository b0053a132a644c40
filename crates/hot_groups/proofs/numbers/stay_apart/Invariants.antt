use Rattle.std.proofs.Common.{◌≡◌, drop}
use Rattle.heat_value.specs.Meaning.{members_of}
use Rattle.eval_words.specs.Maps.{mapped_onto, map_of}
use Rattle.hot_groups.specs.Numbers.{keys_retold}
use Rattle.hot_strings.specs.Answers.{with_values}
use Rattle.hot_groups.proofs.numbers.stay_apart.Given as goal

-- the keys that are left, put to those so far
abbrev pub invariant-loop-member : goal.invariant-loop-member
invariant-loop-member l =
    mapped_onto l.keys (keys_retold (with_values l.numbering) (members_of (drop l.member-index l.members)))
    ≡ map_of (keys_retold (with_values l.numbering) (members_of l.members))
