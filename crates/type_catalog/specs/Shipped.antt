-- What the program registers itself.
use Rattle.std.specs.Prelude.{ℕ, List, [], ◌∷◌, Bool, true, false, codes}
use Rattle.type_catalog.specs.declared.custom.NamedTest.{NamedTest}
use Rattle.type_catalog.specs.declared.kind.KindDef.{KindDef}
use Rattle.type_catalog.specs.declared.kind.PropDef.{PropDef}

-- a property that no resource has to have
abbrev pub optional : List ℕ → Bool → PropDef
optional name soft = record { name = name; required = false; soft = soft }

-- `Test::Box`: `link` and `size` change in place, `zone` doesn't
abbrev pub box_kind : KindDef
box_kind = record {
  name = codes "Test::Box";
  props = optional (codes "link") true ∷ optional (codes "size") true ∷ optional (codes "zone") false ∷ [];
  attrs = codes "addr" ∷ codes "link" ∷ codes "size" ∷ [];
}

-- `nova.flavor`: the four flavors
abbrev pub flavor_test : NamedTest
flavor_test = record {
  name = codes "nova.flavor";
  allowed = codes "m1.tiny" ∷ codes "m1.small" ∷ codes "m1.medium" ∷ codes "m1.large" ∷ [];
}
