-- The lines of a script.
use Rattle.std.specs.Prelude.{ℕ, ◌+◌, min, Bool, false, ◌&&◌, ◌==◌, if◌then◌else◌, List, [], ◌∷◌, length}
use Rattle.std.specs.List.{position_or_len, after_first}

-- LF ends a line
abbrev pub is_lf : ℕ → Bool
is_lf b = b == 10

-- b is a CR, and an LF comes next
abbrev pub is_cr_of_end : ℕ → List ℕ → Bool
is_cr_of_end b [] = false
is_cr_of_end b (c ∷ bytes) = (b == 13) && is_lf c

-- b in front of the first line, or a line of its own where there is none
abbrev pub onto_first : ℕ → List (List ℕ) → List (List ℕ)
onto_first b [] = (b ∷ []) ∷ []
onto_first b (line ∷ lines) = (b ∷ line) ∷ lines

-- A script cut at its LFs. A CR right before an LF is dropped with it. What stands behind the last LF
-- is a line where it isn't empty.
abbrev pub cut_lines : List ℕ → List (List ℕ)
cut_lines [] = []
cut_lines (b ∷ bytes) =
    if is_lf b then [] ∷ cut_lines bytes
    else if is_cr_of_end b bytes then cut_lines bytes
    else onto_first b (cut_lines bytes)

-- how long the first line is: its CR counts, its LF doesn't
abbrev pub length_of_line : List ℕ → ℕ
length_of_line bytes = position_or_len is_lf bytes

-- what stands behind the first line and its LF
abbrev pub behind_line : List ℕ → List ℕ
behind_line bytes = after_first is_lf bytes

-- how many bytes the first line takes, its LF among them
abbrev pub size_of_line : List ℕ → ℕ
size_of_line bytes = min (length_of_line bytes + 1) (length bytes)

-- a line is no longer
abbrev pub line_limit : ℕ
line_limit = 1048576

-- all lines together, with their ends, are no longer
abbrev pub script_limit : ℕ
script_limit = 268435456

-- one read takes no more
abbrev pub most_read : ℕ
most_read = 4096

-- no more is held than a line at its limit and one read
abbrev pub most_held : ℕ
most_held = line_limit + most_read
