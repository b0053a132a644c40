-- The text of a history.
use Rattle.std.specs.Prelude.{◌≡◌, ℕ, List, [], ◌∷◌, ◌++◌, take, drop}
use Rattle.core_state.specs.declared.entry.Entry.{Entry}
use Rattle.core_state.specs.State.{StateData}
use Rattle.report.specs.Seen.{SeenData, seen_of}
use Rattle.report.specs.Entries.{what_text, after_what}

-- what is seen after these entries
abbrev pub seen_after : SeenData → List Entry → SeenData
seen_after seen [] = seen
seen_after seen (e ∷ es) = seen_after (after_what seen e.what) es

-- the text of these entries, given what was seen before them
abbrev pub told : SeenData → List Entry → List ℕ
told seen [] = []
told seen (e ∷ es) = what_text seen e.what ++ told (after_what seen e.what) es

-- the whole text
abbrev pub text_of : StateData → List Entry → List ℕ
text_of opening entries = told (seen_of opening) entries

-- what the entries from a place on add to the text
abbrev pub text_after : StateData → List Entry → ℕ → List ℕ
text_after opening entries from = told (seen_after (seen_of opening) (take from entries)) (drop from entries)

-- The text of all entries is that of the first ones and then what the others add.
abbrev pub IsParted : StateData → List Entry → ℕ → Type 0
IsParted opening entries from = text_of opening entries ≡ text_of opening (take from entries)
    ++ text_after opening entries from
