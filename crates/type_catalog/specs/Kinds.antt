-- What a definition says of its kind.
use Rattle.std.specs.Prelude.{ℕ, List, [], ◌∷◌, if◌then◌else◌}
use Rattle.heat_plan.specs.declared.kind.Kind.{Kind}
use Rattle.type_catalog.specs.declared.kind.KindDef.{KindDef}
use Rattle.type_catalog.specs.declared.kind.PropDef.{PropDef}

-- the names of the properties that change in place, in order
abbrev pub softs_of : List PropDef → List (List ℕ)
softs_of [] = []
softs_of (p ∷ ps) = if p.soft then p.name ∷ softs_of ps else softs_of ps

-- what an item keeps of its kind
abbrev pub kind_of : KindDef → Kind
kind_of k = record { name = k.name; attrs = k.attrs; soft = softs_of k.props }
