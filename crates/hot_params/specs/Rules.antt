-- When a constraint is met by a value, and which code it gives where it isn't.
use Rattle.std.specs.Prelude.{◌≡◌, ◌⊎◌, ℕ, pos, List, [], ◌∷◌, Option, Some, None, ⊤}
use Rattle.std.specs.List.{list_all}
use Rattle.heat_value.specs.Data.{Data, null, flag, whole, words, items, fields, Nodes, no_nodes, node}
use Rattle.hot_forms.specs.Parameters.{nodes_in}
use Rattle.hot_forms.specs.Shapes.{members_in}
use Rattle.hot_forms.specs.declared.rule.Rule.{Rule}
use Rattle.hot_forms.specs.declared.rule.Rule.TheVariants as rule
use Rattle.hot_forms.specs.declared.sort.Sort.{Sort}
use Rattle.hot_forms.specs.declared.sort.Sort.TheVariants as sort
use Rattle.hot_params.specs.Codes.{unless}
use Rattle.hot_params.specs.Conversions.{ConvertsTo}
use Rattle.regex.specs.Patterns.{Re}
use Rattle.hot_params.specs.Patterns.{IsReadAsPattern, AreWhole, IsNoPattern, IsLong}
use Rattle.hot_params.specs.Sizes.{size_of, is_within, is_remainder, of_whole}
use Rattle.hot_params.specs.declared.code.ParamCode.{ParamCode}
use Rattle.hot_params.specs.declared.code.ParamCode.TheVariants.{P01, P02, P03, P04, P05, P06}
use Rattle.type_catalog.specs.Names.{is_listed}
use Rattle.type_catalog.specs.Registries.{test_named}
use Rattle.type_catalog.specs.declared.custom.NamedTest.{NamedTest}

-- ---- allowed_values

-- a member of the list converts to the value
abbrev pub IsAmong : Sort → Nodes → Data → Type 0
IsAmong s no_nodes v = ⊥
IsAmong s (node d ns) v = ConvertsTo (Some s) d v ⊎ IsAmong s ns v

-- each item is among them, as a string
abbrev pub AreAmong : Nodes → Nodes → Type 0
AreAmong allowed no_nodes = ⊤
AreAmong allowed (node d ns) = IsAmong sort.Words allowed d × AreAmong allowed ns

-- the value equals a member as the type; of a list each item, as a string; the constraint doesn't suit json
abbrev pub IsAllowed : Option Sort → Nodes → Data → Type 0
IsAllowed None allowed v = ⊥
IsAllowed (Some sort.Words) allowed v = IsAmong sort.Words allowed v
IsAllowed (Some sort.Number) allowed v = IsAmong sort.Number allowed v
IsAllowed (Some sort.Flag) allowed v = IsAmong sort.Flag allowed v
IsAllowed (Some sort.Json) allowed v = ⊥
IsAllowed (Some sort.List) allowed v = AreAmong allowed (nodes_in (Some v))

-- P04 exactly where the value isn't allowed
abbrev pub IsAllowing : Option Sort → Nodes → Data → Option ParamCode → Type 0
IsAllowing s allowed v None = IsAllowed s allowed v
IsAllowing s allowed v (Some P01) = ⊥
IsAllowing s allowed v (Some P02) = ⊥
IsAllowing s allowed v (Some P03) = ⊥
IsAllowing s allowed v (Some P04) = ¬ IsAllowed s allowed v
IsAllowing s allowed v (Some P05) = ⊥
IsAllowing s allowed v (Some P06) = ⊥

-- ---- allowed_pattern and custom_constraint

-- the text that a value is
abbrev pub text_in : Data → List ℕ
text_in null = []
text_in (flag b) = []
text_in (whole z) = []
text_in (words s) = s
text_in (items ns) = []
text_in (fields ms) = []

-- the texts among the items
abbrev pub texts_among : Nodes → List (List ℕ)
texts_among no_nodes = []
texts_among (node d ns) = text_in d ∷ texts_among ns

-- the text that a value is, or those of its items
abbrev pub texts_in : Data → List (List ℕ)
texts_in null = []
texts_in (flag b) = []
texts_in (whole z) = []
texts_in (words s) = s ∷ []
texts_in (items ns) = texts_among ns
texts_in (fields ms) = []

-- met where the pattern is read and the leftmost match in each text is the whole of it; P04 where it is read and a text
-- has another; P06 only where there is no pattern, or a long one is refused
abbrev pub IsMatching : List ℕ → List (List ℕ) → Option ParamCode → Type 0
IsMatching pattern texts None = (re : Re) × IsReadAsPattern pattern re × AreWhole re texts
IsMatching pattern texts (Some P01) = ⊥
IsMatching pattern texts (Some P02) = ⊥
IsMatching pattern texts (Some P03) = ⊥
IsMatching pattern texts (Some P04) = (re : Re) × IsReadAsPattern pattern re × ¬ AreWhole re texts
IsMatching pattern texts (Some P05) = ⊥
IsMatching pattern texts (Some P06) = IsNoPattern pattern ⊎ IsLong pattern

-- P05 where no test has the name; else P04 where the test isn't true of a text
abbrev pub asked_of : Option NamedTest → List (List ℕ) → Option ParamCode
asked_of None texts = Some P05
asked_of (Some test) texts = unless (list_all (is_listed test.allowed) texts) P04

-- ---- a constraint, by its rule and argument

-- what the constraint gives for a value of the type: nothing where it is met, else a code
abbrev pub Gives : List NamedTest → Option Sort → Rule → Data → Data → Option ParamCode → Type 0
Gives customs s rule.Length a v c = c ≡ unless (is_within (members_in a) (pos (size_of v))) P04
Gives customs s rule.Range a v c = c ≡ unless (of_whole (is_within (members_in a)) v) P04
Gives customs s rule.Modulo a v c = c ≡ unless (of_whole (is_remainder (members_in a)) v) P04
Gives customs s rule.Values a v c = IsAllowing s (nodes_in (Some a)) v c
Gives customs s rule.Pattern a v c = IsMatching (text_in a) (texts_in v) c
Gives customs s rule.Custom a v c = c ≡ asked_of (test_named (text_in a) customs) (texts_in v)

-- what an entry of `constraints` gives
abbrev pub GivesFor : List NamedTest → Option Sort → Option (Rule × Data) → Data → Option ParamCode → Type 0
GivesFor customs s None v c = c ≡ None
GivesFor customs s (Some (r, a)) v c = Gives customs s r a v c
