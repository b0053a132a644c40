-- Lists of names, and what stands under a name.
use Rattle.std.specs.Prelude.{ℕ, List, [], ◌∷◌, Bool, true, not, ◌&&◌, nat_le, length, Option, Some, None}
use Rattle.std.specs.Prelude.{bytes_eq, if◌then◌else◌}
use Rattle.std.specs.List.{list_any}

-- the text is one of the list
abbrev pub is_listed : List (List ℕ) → List ℕ → Bool
is_listed listed text = list_any (bytes_eq text) listed

-- no name stands twice
abbrev pub are_distinct : List (List ℕ) → Bool
are_distinct [] = true
are_distinct (n ∷ ns) = not (is_listed ns n) && are_distinct ns

-- at most 16 names, none of them twice
abbrev pub are_few : List (List ℕ) → Bool
are_few ns = nat_le (length ns) 16 && are_distinct ns

-- the first of this name
abbrev pub named : {T : Type 0} → (T → List ℕ) → List ℕ → List T → Option T
named name_of n [] = None
named name_of n (x ∷ xs) = if bytes_eq (name_of x) n then Some x else named name_of n xs
