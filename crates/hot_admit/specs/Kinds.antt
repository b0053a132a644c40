-- A01, A05 and A06: a resource's type, and its properties by that type.
use Rattle.std.specs.Prelude.{ℕ, List, [], ◌∷◌, Bool, not, ◌&&◌, Option, Some, None, is_some, bytes_eq, codes}
use Rattle.std.specs.Prelude.{if◌then◌else◌}
use Rattle.std.specs.List.{list_any}
use Rattle.heat_value.specs.Data.{Members, no_members, member, lookup}
use Rattle.heat_value.specs.declared.path.Step.{Step}
use Rattle.heat_value.specs.declared.path.Step.TheVariants.{Key}
use Rattle.hot_admit.specs.Basis.{BasisData, kind_at}
use Rattle.hot_admit.specs.Resources.{ResourceData}
use Rattle.hot_catalog.specs.Paths.{here_unless, behind}
use Rattle.type_catalog.specs.declared.kind.KindDef.{KindDef}
use Rattle.type_catalog.specs.declared.kind.PropDef.{PropDef}

-- A01: the type isn't in the catalogue
abbrev pub of_unknown_kind : BasisData → ResourceData → Option (List Step)
of_unknown_kind basis r = behind (Key (codes "type")) (here_unless (is_some (kind_at basis r)))

abbrev pub has_property : KindDef → List ℕ → Bool
has_property kind k = list_any (λ (p : PropDef). bytes_eq k p.name) kind.props

-- the first key in byte order that is no property of the kind
abbrev pub first_unknown : KindDef → Members → Option (List Step)
first_unknown kind no_members = None
first_unknown kind (member k d ms) = if has_property kind k then first_unknown kind ms else Some (Key k ∷ [])

abbrev pub unknown_property : ResourceData → Option KindDef → Option (List Step)
unknown_property r None = None
unknown_property r (Some kind) = first_unknown kind r.properties

-- A05: the first property that the kind hasn't
abbrev pub with_unknown_property : BasisData → ResourceData → Option (List Step)
with_unknown_property basis r = behind (Key (codes "properties")) (unknown_property r (kind_at basis r))

-- a property that has to be there has no key
abbrev pub lacks : Members → PropDef → Bool
lacks ms p = p.required && not (is_some (lookup p.name ms))

abbrev pub missing_property : ResourceData → Option KindDef → Option (List Step)
missing_property r None = None
missing_property r (Some kind) = here_unless (not (list_any (lacks r.properties) kind.props))

-- A06: a property that has to be there has no key
abbrev pub without_property : BasisData → ResourceData → Option (List Step)
without_property basis r = behind (Key (codes "properties")) (missing_property r (kind_at basis r))
