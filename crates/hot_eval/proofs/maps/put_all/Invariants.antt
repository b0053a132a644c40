use Rattle.std.proofs.Common.{◌≡◌, drop}
use Rattle.heat_value.specs.Meaning.{members_of}
use Rattle.eval_words.specs.Maps.{put_all}
use Rattle.hot_eval.proofs.maps.put_all.Given as goal

-- the entries left, put into the map so far
abbrev pub invariant-loop-member : goal.invariant-loop-member
invariant-loop-member l =
    put_all (members_of (drop l.member-index l.members)) l.map ≡ put_all (members_of l.members) l.fn.map
