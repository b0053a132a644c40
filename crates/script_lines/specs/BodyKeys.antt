-- The keys of a body, the sorts of their values, and the first that is wrong.
use Rattle.std.specs.Prelude.{◌≡◌, ◌⊎◌, ℕ, List, Option, Some, None, codes, bytes_eq, if◌then◌else◌, ⊤}
use Rattle.heat_value.specs.Data.{Data, null, flag, whole, words, items, fields, Members, no_members, member}
use Rattle.script_lines.specs.declared.sort.Sort.{Sort}
use Rattle.script_lines.specs.declared.sort.Sort.TheVariants.{Any, Object, Texts, Flag}

-- the sort of what stands under a body's key; any other key is unknown
abbrev pub sort_of : List ℕ → Option Sort
sort_of k =
    if bytes_eq k (codes "template") then Some Any else (
    if bytes_eq k (codes "parameters") then Some Object else (
    if bytes_eq k (codes "files") then Some Texts else (
    if bytes_eq k (codes "disable_rollback") then Some Flag else None)))

abbrev pub IsText : Data → Type 0
IsText null = ⊥
IsText (flag b) = ⊥
IsText (whole z) = ⊥
IsText (words s) = ⊤
IsText (items ns) = ⊥
IsText (fields ms) = ⊥

abbrev pub IsFlag : Data → Type 0
IsFlag null = ⊥
IsFlag (flag b) = ⊤
IsFlag (whole z) = ⊥
IsFlag (words s) = ⊥
IsFlag (items ns) = ⊥
IsFlag (fields ms) = ⊥

abbrev pub IsObject : Data → Type 0
IsObject null = ⊥
IsObject (flag b) = ⊥
IsObject (whole z) = ⊥
IsObject (words s) = ⊥
IsObject (items ns) = ⊥
IsObject (fields ms) = ⊤

-- each value is a text
abbrev pub AreTexts : Members → Type 0
AreTexts no_members = ⊤
AreTexts (member k d ms) = IsText d × AreTexts ms

-- an object whose values are texts
abbrev pub HoldsTexts : Data → Type 0
HoldsTexts null = ⊥
HoldsTexts (flag b) = ⊥
HoldsTexts (whole z) = ⊥
HoldsTexts (words s) = ⊥
HoldsTexts (items ns) = ⊥
HoldsTexts (fields ms) = AreTexts ms

abbrev pub IsOfSort : Sort → Data → Type 0
IsOfSort Any d = ⊤
IsOfSort Object d = IsObject d
IsOfSort Texts d = HoldsTexts d
IsOfSort Flag d = IsFlag d

-- the key is known, and the value is of its sort
abbrev pub IsKnown : Option Sort → Data → Type 0
IsKnown None d = ⊥
IsKnown (Some s) d = IsOfSort s d

abbrev pub IsRight : List ℕ → Data → Type 0
IsRight k d = IsKnown (sort_of k) d

-- each key is known, with a value of its sort
abbrev pub AreRight : Members → Type 0
AreRight no_members = ⊤
AreRight (member k d ms) = IsRight k d × AreRight ms

-- the first key in order that is unknown or has a value of another sort
abbrev pub IsFirstWrong : Members → List ℕ → Type 0
IsFirstWrong no_members key = ⊥
IsFirstWrong (member k d ms) key = ((¬ IsRight k d) × (key ≡ k)) ⊎ (IsRight k d × IsFirstWrong ms key)
