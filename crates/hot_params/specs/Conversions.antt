-- What a value is as a parameter of a type: the table of conversions.
use Rattle.std.specs.Prelude.{◌≡◌, ℕ, List, [], ◌∷◌, Bool, true, false, ℤ, pos, Option, Some, None, option_map}
use Rattle.std.specs.Prelude.{if◌then◌else◌}
use Rattle.std.specs.Ordering.{int_eq}
use Rattle.heat_value.specs.Coercion.{coerced}
use Rattle.heat_value.specs.Data.{Data, null, flag, whole, words, items, fields, Nodes, no_nodes, node}
use Rattle.heat_value.specs.Reading.{IsReadAs}
use Rattle.hot_forms.specs.declared.sort.Sort.{Sort}
use Rattle.hot_forms.specs.declared.sort.Sort.TheVariants as sort
use Rattle.hot_params.specs.Texts.{IsWholeText, whole_of, flag_said, listed_in}

-- string: a text; a whole number or flag by its text
abbrev pub string_in : Data → Option (List ℕ)
string_in null = None
string_in (flag b) = Some (coerced (flag b))
string_in (whole z) = Some (coerced (whole z))
string_in (words s) = Some s
string_in (items ns) = None
string_in (fields ms) = None

-- number: a whole number; a text that writes one
abbrev pub IsNumberOf : Data → ℤ → Type 0
IsNumberOf null z = ⊥
IsNumberOf (flag b) z = ⊥
IsNumberOf (whole y) z = z ≡ y
IsNumberOf (words s) z = IsWholeText s × (z ≡ whole_of s)
IsNumberOf (items ns) z = ⊥
IsNumberOf (fields ms) z = ⊥

-- the flag that 1 and 0 stand for
abbrev pub flag_numbered : ℤ → Option Bool
flag_numbered z = if int_eq z (pos 1) then Some true else (if int_eq z (pos 0) then Some false else None)

-- boolean: a flag; 1 and 0; a text that says one
abbrev pub flag_in : Data → Option Bool
flag_in null = None
flag_in (flag b) = Some b
flag_in (whole z) = flag_numbered z
flag_in (words s) = flag_said s
flag_in (items ns) = None
flag_in (fields ms) = None

-- the data, where it is an object or list
abbrev pub collected : Data → Option Data
collected null = None
collected (flag b) = None
collected (whole z) = None
collected (words s) = None
collected (items ns) = Some (items ns)
collected (fields ms) = Some (fields ms)

-- json: an object or list; a text that is read as one
abbrev pub IsJsonOf : Data → Data → Type 0
IsJsonOf null v = ⊥
IsJsonOf (flag b) v = ⊥
IsJsonOf (whole z) v = ⊥
IsJsonOf (words s) v = IsReadAs s v × (collected v ≡ Some v)
IsJsonOf (items ns) v = v ≡ items ns
IsJsonOf (fields ms) v = v ≡ fields ms

-- each value by its text
abbrev pub texts_of : Nodes → Nodes
texts_of no_nodes = no_nodes
texts_of (node d ns) = node (words (coerced d)) (texts_of ns)

-- the texts as a list
abbrev pub nodes_with : List (List ℕ) → Nodes
nodes_with [] = no_nodes
nodes_with (s ∷ ss) = node (words s) (nodes_with ss)

-- comma_delimited_list: a list, each item by its text; a text by what it lists
abbrev pub list_in : Data → Option Nodes
list_in null = None
list_in (flag b) = None
list_in (whole z) = None
list_in (words s) = Some (nodes_with (listed_in s))
list_in (items ns) = Some (texts_of ns)
list_in (fields ms) = None

-- the value v is the data d as a parameter of the type
abbrev pub ConvertsTo : Option Sort → Data → Data → Type 0
ConvertsTo None d v = ⊥
ConvertsTo (Some sort.Words) d v = option_map words (string_in d) ≡ Some v
ConvertsTo (Some sort.Number) d v = (z : ℤ) × IsNumberOf d z × (v ≡ whole z)
ConvertsTo (Some sort.Flag) d v = option_map flag (flag_in d) ≡ Some v
ConvertsTo (Some sort.Json) d v = IsJsonOf d v
ConvertsTo (Some sort.List) d v = option_map items (list_in d) ≡ Some v

-- what a conversion gives: the value, or nothing where there is none
abbrev pub IsConversion : Option Sort → Data → Option Data → Type 0
IsConversion s d None = (v : Data) → ¬ ConvertsTo s d v
IsConversion s d (Some v) = ConvertsTo s d v
