-- What stands under a name in a registry.
use Rattle.std.specs.Prelude.{ℕ, List, Option}
use Rattle.type_catalog.specs.Names.{named}
use Rattle.type_catalog.specs.declared.custom.NamedTest.{NamedTest}
use Rattle.type_catalog.specs.declared.kind.KindDef.{KindDef}

abbrev pub kind_name : KindDef → List ℕ
kind_name k = k.name

abbrev pub test_name : NamedTest → List ℕ
test_name t = t.name

-- the kind of this name
abbrev pub kind_named : List ℕ → List KindDef → Option KindDef
kind_named = named kind_name

-- the test of this name
abbrev pub test_named : List ℕ → List NamedTest → Option NamedTest
test_named = named test_name
