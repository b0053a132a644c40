-- What a right definition says of its kind.
use Rattle.std.specs.Prelude.{ℕ, List, [], ◌∷◌, Bool, false, Option, Some, None, codes}
use Rattle.heat_value.specs.Data.{Data, null, flag, whole, words, items, fields, Nodes, no_nodes, node, Members}
use Rattle.heat_value.specs.Data.{no_members, member, lookup, keys_of, put}
use Rattle.hot_forms.specs.Shapes.{members_in}
use Rattle.type_catalog.specs.declared.kind.KindDef.{KindDef}
use Rattle.type_catalog.specs.declared.kind.PropDef.{PropDef}

-- the text as a key of the map
abbrev pub with_text : Data → Members → Members
with_text null ms = ms
with_text (flag b) ms = ms
with_text (whole z) ms = ms
with_text (words s) ms = put s null ms
with_text (items ns) ms = ms
with_text (fields fs) ms = ms

-- the texts of a list as the keys of a map: in byte order, each once
abbrev pub with_texts : Nodes → Members → Members
with_texts no_nodes ms = ms
with_texts (node d ns) ms = with_texts ns (with_text d ms)

-- the map whose keys are the names: those of a list, or an object's own
abbrev pub names_in : Option Data → Members
names_in None = no_members
names_in (Some null) = no_members
names_in (Some (flag b)) = no_members
names_in (Some (whole z)) = no_members
names_in (Some (words s)) = no_members
names_in (Some (items ns)) = with_texts ns no_members
names_in (Some (fields ms)) = ms

-- the attributes, in byte order, each once
abbrev pub attributes_in : Data → List (List ℕ)
attributes_in d = keys_of (names_in (lookup (codes "attributes") (members_in d)))

-- a flag that is set; an absent one isn't
abbrev pub is_set : Option Data → Bool
is_set None = false
is_set (Some null) = false
is_set (Some (flag b)) = b
is_set (Some (whole z)) = false
is_set (Some (words s)) = false
is_set (Some (items ns)) = false
is_set (Some (fields ms)) = false

-- the property of this name with these flags
abbrev pub property_with : List ℕ → Members → PropDef
property_with name ms = record {
  name = name;
  required = is_set (lookup (codes "required") ms);
  soft = is_set (lookup (codes "update_allowed") ms);
}

abbrev pub property_of : List ℕ → Data → PropDef
property_of name d = property_with name (members_in d)

abbrev pub properties_among : Members → List PropDef
properties_among no_members = []
properties_among (member k d ms) = property_of k d ∷ properties_among ms

abbrev pub members_there : Option Data → Members
members_there None = no_members
members_there (Some d) = members_in d

-- the properties, in byte order
abbrev pub properties_in : Data → List PropDef
properties_in d = properties_among (members_there (lookup (codes "properties") (members_in d)))

-- the kind of this name that a definition says
abbrev pub definition_of : List ℕ → Data → KindDef
definition_of name d = record { name = name; props = properties_in d; attrs = attributes_in d }

-- the kinds that members define, in their order
abbrev pub definitions_of : Members → List KindDef
definitions_of no_members = []
definitions_of (member k d ms) = definition_of k d ∷ definitions_of ms
