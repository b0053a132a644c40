-- What the names in a template may stand for.
use Rattle.std.specs.Prelude.{ℕ, List, Option, bytes_eq, find}
use Rattle.heat_value.specs.Data.{Members}
use Rattle.hot_admit.specs.Resources.{ResourceData, resources_data}
use Rattle.hot_admit.specs.declared.basis.Basis.{Basis}
use Rattle.hot_catalog.specs.Catalogs.{standing}
use Rattle.type_catalog.specs.Registries.{kind_named}
use Rattle.type_catalog.specs.declared.kind.KindDef.{KindDef}

-- a template's resources, the files beside it, and the kinds that stand
pub record BasisData : Type 0 where
  pub resources : List ResourceData
  pub files : Members
  pub kinds : List KindDef

-- the resource of this name
abbrev pub resource_named : List ResourceData → List ℕ → Option ResourceData
resource_named resources name = find (λ (r : ResourceData). bytes_eq r.name name) resources

-- the kind of a resource, if it stands
abbrev pub kind_at : BasisData → ResourceData → Option KindDef
kind_at basis r = kind_named r.kind basis.kinds

-- what a basis of the program shows
abbrev pub basis_data : Basis → BasisData
basis_data b = record {
  resources = resources_data b.resources.now;
  files = b.files.now;
  kinds = standing b.catalog.now;
}
