use Rattle.std.proofs.Common.{◌≡◌, [], ◌∷◌, codes, drop}
use Rattle.heat_value.specs.Meaning.{members_of}
use Rattle.hot_functions.specs.Forms.{are_among}
use Rattle.hot_eval.proofs.maps.are_known.Given as goal

-- what is left decides
abbrev pub invariant-loop-member : goal.invariant-loop-member
invariant-loop-member l =
    are_among (codes "keys" ∷ codes "values" ∷ []) (members_of l.members)
    ≡ are_among (codes "keys" ∷ codes "values" ∷ []) (members_of (drop l.member-index l.members))
