-- L09: what is wrong with a catalogue, and where.
use Rattle.std.specs.Prelude.{ℕ, List, [], ◌∷◌, Bool, ◌==◌, ◌&&◌, ◌||◌, not, nat_le, length, is_some}
use Rattle.std.specs.Prelude.{Option, Some, None}
use Rattle.std.specs.Prelude.{codes}
use Rattle.std.specs.List.{list_all}
use Rattle.std.specs.Option.{option_or}
use Rattle.std.specs.Char.{is_ascii_alphanumeric}
use Rattle.heat_value.specs.Data.{Data, null, flag, whole, words, items, fields, Members}
use Rattle.heat_value.specs.Data.{no_members, member, lookup}
use Rattle.heat_value.specs.declared.path.Step.{Step}
use Rattle.heat_value.specs.declared.path.Step.TheVariants.{Key}
use Rattle.hot_forms.specs.Shapes.{are_texts, is_flag}
use Rattle.hot_catalog.specs.Definitions.{attributes_in}
use Rattle.hot_catalog.specs.Paths.{here_unless, behind, first_path}
use Rattle.type_catalog.specs.Registries.{kind_named}
use Rattle.type_catalog.specs.declared.kind.KindDef.{KindDef}

-- ---- names

-- a letter, a digit, `_`, `.`, `:` or `-`
abbrev pub is_kind_byte : ℕ → Bool
is_kind_byte b = is_ascii_alphanumeric b || b == 95 || b == 46 || b == 58 || b == 45

-- 1 to 255 such bytes
abbrev pub is_kind_name : List ℕ → Bool
is_kind_name s = nat_le 1 (length s) && nat_le (length s) 255 && list_all is_kind_byte s

-- ---- attributes

-- neither a list of texts nor an object
abbrev pub attributes_shape : Data → Option (List Step)
attributes_shape null = Some []
attributes_shape (flag b) = Some []
attributes_shape (whole z) = Some []
attributes_shape (words s) = Some []
attributes_shape (items ns) = here_unless (are_texts ns)
attributes_shape (fields ms) = None

-- ---- properties

-- what stands there isn't a flag
abbrev pub unflagged : Option Data → Option (List Step)
unflagged None = None
unflagged (Some d) = here_unless (is_flag d)

-- a flag of a property, if it is there, is none
abbrev pub flag_shape : List ℕ → Members → Option (List Step)
flag_shape k ms = behind (Key k) (unflagged (lookup k ms))

-- a property's definition isn't an object, or one of its flags is none
abbrev pub property_shape : Data → Option (List Step)
property_shape null = Some []
property_shape (flag b) = Some []
property_shape (whole z) = Some []
property_shape (words s) = Some []
property_shape (items ns) = Some []
property_shape (fields ms) =
    first_path (flag_shape (codes "required") ms ∷ flag_shape (codes "update_allowed") ms ∷ [])

-- the first property, in byte order, of another shape
abbrev pub with_no_property : Members → Option (List Step)
with_no_property no_members = None
with_no_property (member k d ms) = option_or (behind (Key k) (property_shape d)) (with_no_property ms)

abbrev pub properties_shape : Data → Option (List Step)
properties_shape null = Some []
properties_shape (flag b) = Some []
properties_shape (whole z) = Some []
properties_shape (words s) = Some []
properties_shape (items ns) = Some []
properties_shape (fields ms) = with_no_property ms

-- ---- a kind

abbrev pub shaped : (Data → Option (List Step)) → Option Data → Option (List Step)
shaped shape None = None
shaped shape (Some d) = shape d

-- what stands under a key, if it is there, has another shape
abbrev pub part_shape : List ℕ → (Data → Option (List Step)) → Members → Option (List Step)
part_shape k shape ms = behind (Key k) (shaped shape (lookup k ms))

-- a definition isn't an object, or its attributes or properties have another shape
abbrev pub definition_shape : Data → Option (List Step)
definition_shape null = Some []
definition_shape (flag b) = Some []
definition_shape (whole z) = Some []
definition_shape (words s) = Some []
definition_shape (items ns) = Some []
definition_shape (fields ms) = first_path (
    part_shape (codes "attributes") attributes_shape ms
    ∷ part_shape (codes "properties") properties_shape ms ∷ [])

-- more than 64 attributes, each counted once
abbrev pub with_many_attributes : Data → Option (List Step)
with_many_attributes d = behind (Key (codes "attributes")) (here_unless (nat_le (length (attributes_in d)) 64))

-- a kind under its name: a bad name or shape, too many attributes, a kind of the registry
abbrev pub kind_flaw : List KindDef → List ℕ → Data → Option (List Step)
kind_flaw registered name d = first_path (
    here_unless (is_kind_name name)
    ∷ definition_shape d
    ∷ with_many_attributes d
    ∷ here_unless (not (is_some (kind_named name registered))) ∷ [])

-- the first kind, in byte order of names, with a flaw
abbrev pub kinds_flaw : List KindDef → Members → Option (List Step)
kinds_flaw registered no_members = None
kinds_flaw registered (member k d ms) = option_or (behind (Key k) (kind_flaw registered k d)) (kinds_flaw registered ms)

-- a catalogue isn't an object, or has a kind with a flaw
abbrev pub catalogue_flaw : List KindDef → Data → Option (List Step)
catalogue_flaw registered null = Some []
catalogue_flaw registered (flag b) = Some []
catalogue_flaw registered (whole z) = Some []
catalogue_flaw registered (words s) = Some []
catalogue_flaw registered (items ns) = Some []
catalogue_flaw registered (fields ms) = kinds_flaw registered ms
