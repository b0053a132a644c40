-- Texts joined by a delimiter.
use Rattle.std.specs.Prelude.{ℕ, List, [], ◌∷◌, ◌++◌}

-- the items in order, the delimiter between each two
abbrev pub joined : List ℕ → List (List ℕ) → List ℕ
joined d [] = []
joined d (x ∷ []) = x
joined d (x ∷ y ∷ ys) = x ++ (d ++ joined d (y ∷ ys))
