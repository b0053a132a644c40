-- What the length of a list of members says of the object.
use Rattle.std.proofs.Common.{◌≡◌, ◌<◌, ◌≤◌, List, [], ◌∷◌, true, false, length, refl, arith}
use Rattle.heat_value.specs.Meaning.{members_of}
use Rattle.heat_value.specs.declared.value.Member.{Member}
use Rattle.hot_forms.specs.Constraints.{is_empty, is_modulo}

pub none_empty : (es : List Member) → length es < 1 → true ≡ is_empty (members_of es)
none_empty [] below = refl
none_empty (e ∷ es) below = absurd (omega (arith, below))

pub some_not_empty : (es : List Member) → 1 ≤ length es → false ≡ is_empty (members_of es)
some_not_empty [] above = absurd (omega (arith, above))
some_not_empty (e ∷ es) above = refl

pub short_modulo : (es : List Member) → length es < 2 → false ≡ is_modulo (members_of es)
short_modulo [] below = refl
short_modulo (e ∷ []) below = refl
short_modulo (e ∷ f ∷ es) below = absurd (omega (arith, below))

pub long_modulo : (es : List Member) → 3 ≤ length es → false ≡ is_modulo (members_of es)
long_modulo [] above = absurd (omega (arith, above))
long_modulo (e ∷ []) above = absurd (omega (arith, above))
long_modulo (e ∷ f ∷ []) above = absurd (omega (arith, above))
long_modulo (e ∷ f ∷ g ∷ es) above = refl
