use Rattle.std.proofs.Common.{◌≡◌, drop}
use Rattle.heat_value.specs.Meaning.{members_of}
use Rattle.eval_words.specs.Maps.{mapped_onto, map_of, renamed}
use Rattle.hot_eval.proofs.maps.renamed.Given as goal

-- the entries left, renamed and put into the map so far
abbrev pub invariant-loop-member : goal.invariant-loop-member
invariant-loop-member l =
    mapped_onto l.renamed (renamed (l.names, l.values) (members_of (drop l.member-index l.members)))
    ≡ map_of (renamed (l.names, l.values) (members_of l.members))
