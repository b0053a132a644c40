-- Things found by their names: conditions, files.
use Rattle.std.specs.Prelude.{ℕ, List, Bool, Option, option_map, bytes_eq, find}
use Rattle.heat_plan.specs.declared.conditions.Condition.{Condition}
use Rattle.heat_plan.specs.declared.files.File.{File}

-- the first of that name
abbrev pub first_named : {T : Type 0} → (T → List ℕ) → List ℕ → List T → Option T
first_named name_of name all = find (λ x. bytes_eq (name_of x) name) all

-- the value of the condition of that name
abbrev pub condition_value : List Condition → List ℕ → Option Bool
condition_value conds name = option_map (λ (c : Condition). c.value) (first_named (λ (c : Condition). c.name) name conds)

-- the text of the file of that name
abbrev pub file_content : List File → List ℕ → Option (List ℕ)
file_content files name = option_map (λ (f : File). f.content) (first_named (λ (f : File). f.name) name files)
