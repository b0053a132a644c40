use Rattle.std.proofs.Common.{◌≡◌, ◌≤◌, List, [], ◌∷◌, false, length, refl, arith}
use Rattle.heat_value.specs.Meaning.{members_of}
use Rattle.heat_value.specs.declared.value.Member.{Member}
use Rattle.hot_admit.specs.Unsupported.{is_empty}
use Rattle.hot_admit.proofs.unsupported.is_empty.Goals as goal

filled : (es : List Member) → 1 ≤ length es → false ≡ is_empty (members_of es)
filled [] above = absurd (omega (arith, above))
filled (e ∷ es) above = refl

pub returns-in-len1-up : goal.returns-in-len1-up
returns-in-len1-up c = rw (← c.as_slice.ensures.members) (filled _ c.in-len1-up.len_at_least)
