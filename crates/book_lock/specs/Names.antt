-- Names of passes: a list of flags, to which each split puts one flag more.
use Rattle.std.specs.Prelude.{ℕ, suc, ◌-◌, Bool, true, false, List, [], ◌∷◌, ◌++◌, cond, not, take, length}

-- whether two flags are the same
abbrev pub agree : Bool → Bool → Bool
agree true c = c
agree false c = not c

-- 1 where the endless row of flags begins with the name, and else 0
abbrev pub on : (ℕ → Bool) → List Bool → ℕ
on row [] = 1
on row (flag ∷ name) = cond (agree flag (row 0)) (on (λ k. row (suc k)) name) 0

-- the names of the two that a split gives
abbrev pub child : List Bool → Bool → List Bool
child name flag = name ++ flag ∷ []

-- the name that was split, which a join takes back
abbrev pub parent : List Bool → List Bool
parent name = take (length name - 1) name
