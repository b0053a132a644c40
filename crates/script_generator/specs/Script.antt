-- The generated script: its eight lines, and their text.
use Rattle.std.specs.Prelude.{◌≡◌, ◌==◌, ◌||◌, ℕ, Bool, false, List, [], ◌∷◌, ◌++◌, codes, flat_map, length}
use Rattle.std.specs.List.{AllByRecursion}
use Rattle.heat_value.specs.Compact.{compact}
use Rattle.heat_value.specs.Data.{Data, words, fields, no_members, member}
use Rattle.script_generator.specs.Resources.{resources_from}
use Rattle.script_generator.specs.declared.body.Body.{Body}
use Rattle.script_generator.specs.declared.body.Body.TheVariants.{First, Second}

-- a body whose template has the resources 1 to n
unfoldable pub body_of : Body → ℕ → Data
body_of body n =
    fields (member (codes "template") (fields (
    member (codes "heat_template_version") (words (codes "2018-08-31"))
    (member (codes "resources") (fields (resources_from body 1 n)) no_members))) no_members)

-- the stack `g` is created, driven for ten turns towards the second body, then back to the first, and deleted
abbrev pub lines_over : List ℕ → List ℕ → List (List ℕ)
lines_over first second =
    (codes "create g " ++ first) ∷ codes "run"
    ∷ (codes "update g " ++ second) ∷ codes "run 10"
    ∷ (codes "update g " ++ first) ∷ codes "run"
    ∷ codes "delete g" ∷ codes "run" ∷ []

-- the lines of the script of n resources
abbrev pub lines_of : ℕ → List (List ℕ)
lines_of n = lines_over (compact (body_of First n)) (compact (body_of Second n))

-- lines with an LF behind each
abbrev pub text_of_lines : List (List ℕ) → List ℕ
text_of_lines lines = flat_map (λ line. line ++ 10 ∷ []) lines

-- the script of n resources
abbrev pub script_of : ℕ → List ℕ
script_of n = text_of_lines (lines_of n)

-- an LF stands among the bytes
abbrev pub has_lf : List ℕ → Bool
has_lf [] = false
has_lf (b ∷ bs) = (b == 10) || has_lf bs

-- there are so many lines, and no LF stands within one
abbrev pub AreSoMany : ℕ → List (List ℕ) → Type 0
AreSoMany n lines = (length lines ≡ n) × AllByRecursion (λ line. has_lf line ≡ false) lines
