-- The printed form of a path: compact JSON, such as `["resources","a",0]`.
use Rattle.std.specs.Prelude.{ℕ, List, [], ◌∷◌, ◌++◌, Bool, true, false, decimal, if◌then◌else◌}
use Rattle.json.specs.Print.{quoted}
use Rattle.heat_value.specs.declared.path.Step.{Step}
use Rattle.heat_value.specs.declared.path.Step.TheVariants.{Key, Index}

-- a key in quotes, or a place in decimal
abbrev pub step_text : Step → List ℕ
step_text (Key k) = quoted k
step_text (Index i) = decimal i

-- the rest of a path's text, with a comma in front where a step stands before
abbrev pub steps_text : Bool → List Step → List ℕ
steps_text later [] = 93 ∷ []
steps_text later (s ∷ ss) = (if later then 44 ∷ [] else []) ++ (step_text s ++ steps_text true ss)

-- a path's text, its steps in brackets
abbrev pub path_text : List Step → List ℕ
path_text ss = 91 ∷ steps_text false ss
