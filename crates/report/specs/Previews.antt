-- The lines of a preview: what an update would do with each resource of its plan, and with rows of other names.
use Rattle.std.specs.Prelude.{ℕ, List, [], ◌∷◌, ◌++◌, codes}
use Rattle.heat_value.specs.Path.{path_text}
use Rattle.heat_plan.specs.declared.item.Policy.{Policy}
use Rattle.heat_plan.specs.declared.item.Policy.TheVariants.{Delete, Retain}
use Rattle.core_state.specs.declared.forecast.Fore.{Fore}
use Rattle.core_state.specs.declared.forecast.Fore.TheVariants as fore
use Rattle.core_state.specs.declared.forecast.Forecast.{Forecast}
use Rattle.core_state.specs.declared.forecast.Foretold.{Foretold}
use Rattle.core_state.specs.declared.forecast.Going.{Going}
use Rattle.report.specs.Words.{line}

-- what is done with a resource of the plan; of a fault its code and its place
abbrev pub fore_text : Fore → List ℕ
fore_text fore.Keep = codes "keep"
fore_text fore.InPlace = codes "update"
fore_text fore.Replace = codes "replace"
fore_text fore.Create = codes "create"
fore_text fore.Unsure = codes "unsure"
fore_text (fore.Fault code path) = codes "fault " ++ code ++ 32 ∷ path_text path

-- what is done with a row whose name the plan doesn't have, by its policy
abbrev pub going_word : Policy → List ℕ
going_word Delete = codes "remove"
going_word Retain = codes "release"

-- `preview <stack> <name> <word>`
abbrev pub preview_line : List ℕ → List ℕ → List ℕ → List ℕ
preview_line stack name word = line (codes "preview" ∷ stack ∷ name ∷ word ∷ [])

-- a line for each resource of the plan
abbrev pub foretold_lines : List ℕ → List Foretold → List ℕ
foretold_lines stack [] = []
foretold_lines stack (it ∷ items) = preview_line stack it.name (fore_text it.fore) ++ foretold_lines stack items

-- a line for each of the other rows
abbrev pub going_lines : List ℕ → List Going → List ℕ
going_lines stack [] = []
going_lines stack (it ∷ gone) = preview_line stack it.name (going_word it.policy) ++ going_lines stack gone

abbrev pub preview_text : List ℕ → Forecast → List ℕ
preview_text stack forecast = foretold_lines stack forecast.items ++ going_lines stack forecast.gone
