-- The shapes that a template wants of values.
use Rattle.std.specs.Prelude.{ℕ, List, Bool, true, false, ◌&&◌, ◌||◌, Option, Some, None}
use Rattle.heat_value.specs.Data.{Data, null, flag, whole, words, items, fields, Nodes, no_nodes, node}
use Rattle.heat_value.specs.Data.{Members, no_members, member, lookup}
use Rattle.heat_value.specs.declared.path.Step.TheVariants.{Key}
use Rattle.hot_forms.specs.Checks.{under, unless}
use Rattle.hot_forms.specs.declared.code.HotCode.{HotCode}
use Rattle.hot_forms.specs.declared.flaw.Flaw.{Flaw}
use Rattle.hot_forms.specs.declared.shape.Shape.{Shape}
use Rattle.hot_forms.specs.declared.shape.Shape.TheVariants as shape

abbrev pub is_null : Data → Bool
is_null null = true
is_null (flag b) = false
is_null (whole z) = false
is_null (words s) = false
is_null (items ns) = false
is_null (fields ms) = false

abbrev pub is_flag : Data → Bool
is_flag null = false
is_flag (flag b) = true
is_flag (whole z) = false
is_flag (words s) = false
is_flag (items ns) = false
is_flag (fields ms) = false

abbrev pub is_text : Data → Bool
is_text null = false
is_text (flag b) = false
is_text (whole z) = false
is_text (words s) = true
is_text (items ns) = false
is_text (fields ms) = false

abbrev pub is_list : Data → Bool
is_list null = false
is_list (flag b) = false
is_list (whole z) = false
is_list (words s) = false
is_list (items ns) = true
is_list (fields ms) = false

abbrev pub is_object : Data → Bool
is_object null = false
is_object (flag b) = false
is_object (whole z) = false
is_object (words s) = false
is_object (items ns) = false
is_object (fields ms) = true

-- each is a text
abbrev pub are_texts : Nodes → Bool
are_texts no_nodes = true
are_texts (node d ns) = is_text d && are_texts ns

-- a list of texts
abbrev pub is_text_list : Data → Bool
is_text_list null = false
is_text_list (flag b) = false
is_text_list (whole z) = false
is_text_list (words s) = false
is_text_list (items ns) = are_texts ns
is_text_list (fields ms) = false

abbrev pub has_shape : Shape → Data → Bool
has_shape shape.Text d = is_text d
has_shape shape.Flag d = is_flag d
has_shape shape.List d = is_list d
has_shape shape.Object d = is_object d
has_shape shape.Texts d = is_text_list d
has_shape shape.TextOrTexts d = is_text d || is_text_list d
has_shape shape.ObjectOrNull d = is_object d || is_null d

-- what stands there has the shape; nothing is wrong where nothing stands
abbrev pub unshaped : HotCode → Shape → Option Data → Option Flaw
unshaped c s None = None
unshaped c s (Some d) = unless (has_shape s d) c

-- what stands under a key has another shape
abbrev pub misshapen : HotCode → List ℕ → Shape → Members → Option Flaw
misshapen c k s ms = under (Key k) (unshaped c s (lookup k ms))

-- the members of an object; any other value has none
abbrev pub members_in : Data → Members
members_in null = no_members
members_in (flag b) = no_members
members_in (whole z) = no_members
members_in (words s) = no_members
members_in (items ns) = no_members
members_in (fields ms) = ms
