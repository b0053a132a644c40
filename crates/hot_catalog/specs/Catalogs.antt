-- What a catalogue holds after a value was read into it, or the fault.
use Rattle.std.specs.Prelude.{◌≡◌, ℕ, List, [], ◌∷◌, ◌++◌, ◌+◌, length, nat_le, bytes_eq, Option, Some, None}
use Rattle.std.specs.Prelude.{codes, if◌then◌else◌}
use Rattle.std.specs.Prelude.{⊤}
use Rattle.heat_value.specs.Data.{Data}
use Rattle.heat_value.specs.declared.path.Step.{Step}
use Rattle.hot_catalog.specs.Definitions.{definitions_of}
use Rattle.hot_catalog.specs.Flaws.{catalogue_flaw}
use Rattle.hot_catalog.specs.Paths.{here_unless, first_path}
use Rattle.hot_catalog.specs.declared.catalog.Catalog.{Catalog}
use Rattle.hot_catalog.specs.declared.fault.CatalogFault.{CatalogFault}
use Rattle.hot_catalog.specs.declared.fault.CatalogFault.TheVariants.{L09, Memory}
use Rattle.hot_forms.specs.Shapes.{members_in}
use Rattle.type_catalog.specs.declared.kind.KindDef.{KindDef}

-- the kind in place of the one of its name, or behind the last
abbrev pub with_kind : KindDef → List KindDef → List KindDef
with_kind k [] = k ∷ []
with_kind k (l ∷ ls) = if bytes_eq l.name k.name then k ∷ ls else l ∷ with_kind k ls

-- the kinds with others, in their order
abbrev pub with_all : List KindDef → List KindDef → List KindDef
with_all [] ks = ks
with_all (n ∷ ns) ks = with_all ns (with_kind n ks)

-- all kinds that stand: the registry's and those of lines
abbrev pub standing : Catalog → List KindDef
standing c = c.registered ++ c.given

-- the catalogue once the value was read into it
abbrev pub after : Catalog → Data → Catalog
after c d = record { registered = c.registered; given = with_all (definitions_of (members_in d)) c.given }

-- more than 256 kinds would stand
abbrev pub with_many_kinds : Catalog → Option (List Step)
with_many_kinds c = here_unless (nat_le (length c.registered + length c.given) 256)

-- the first fault of a value that is read into a catalogue
abbrev pub read_flaw : Catalog → Data → Option (List Step)
read_flaw c d = first_path (catalogue_flaw c.registered d ∷ with_many_kinds (after c d) ∷ [])

-- the fault is at this path, or want of memory
abbrev pub IsFaultAt : Option (List Step) → CatalogFault → Type 0
IsFaultAt found (L09 p) = found ≡ Some p
IsFaultAt found Memory = ⊤

-- the fault is the first, or want of memory
abbrev pub IsFaultOf : Catalog → Data → CatalogFault → Type 0
IsFaultOf c d = IsFaultAt (read_flaw c d)

-- the code that a fault is noted with; want of memory has none
abbrev pub fault_code : CatalogFault → Option (List ℕ)
fault_code (L09 p) = Some (codes "L09")
fault_code Memory = None

-- the path that is noted with it
abbrev pub fault_path : CatalogFault → Option (List Step)
fault_path (L09 p) = Some p
fault_path Memory = None
