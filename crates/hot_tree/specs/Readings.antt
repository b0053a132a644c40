-- What stands in an object, read whatever it is.
use Rattle.std.specs.Prelude.{ℕ, List, [], ◌∷◌, Option, Some, None, ⊤}
use Rattle.heat_value.specs.Data.{Data, null, flag, whole, words, items, fields, Members, no_members, member}
use Rattle.hot_forms.specs.Sections.{section}
use Rattle.hot_forms.specs.Shapes.{members_in}

-- the members of the object that stands there; anything else has none
abbrev pub object_in : Option Data → Members
object_in None = no_members
object_in (Some d) = members_in d

-- the entries of a section; an absent one has none
abbrev pub entries : List ℕ → Members → Members
entries k ms = object_in (section k ms)

-- the text that stands there, else this one
abbrev pub text_or : List ℕ → Option Data → List ℕ
text_or other None = other
text_or other (Some null) = other
text_or other (Some (flag b)) = other
text_or other (Some (whole z)) = other
text_or other (Some (words s)) = s
text_or other (Some (items ns)) = other
text_or other (Some (fields ms)) = other

-- what stands there, else null
abbrev pub or_null : Option Data → Data
or_null None = null
or_null (Some d) = d

-- entries and what each is read as, one by one
abbrev pub AreEach : {T : Type 0} → (List ℕ → Data → T → Type 0) → Members → List T → Type 0
AreEach Is no_members [] = ⊤
AreEach Is no_members (x ∷ xs) = ⊥
AreEach Is (member k d ms) [] = ⊥
AreEach Is (member k d ms) (x ∷ xs) = Is k d x × AreEach Is ms xs
