-- What functions read: parameters, facts of resources, files, and the values at a path in them.
use Rattle.std.specs.Prelude.{ℕ, zero, suc, ℤ, pos, negsuc, List, [], Bool, Option, Some, None, Result, Ok}
use Rattle.std.specs.Prelude.{option_map, option_and_then, unwrap_or, bytes_eq, find}
use Rattle.heat_value.specs.Coercion.{coerced}
use Rattle.heat_value.specs.Data.{Data, null, flag, whole, words, items, fields, Nodes, no_nodes, node}
use Rattle.heat_value.specs.Data.{lookup}
use Rattle.heat_plan.specs.declared.facts.Facts.{Facts}
use Rattle.heat_plan.specs.declared.facts.KnownFacts.{KnownFacts}
use Rattle.heat_plan.specs.Named.{condition_value, file_content}
use Rattle.eval_words.specs.Scenes.{SceneData}
use Rattle.eval_words.specs.Sorts.{wanted, text_in, first_and_rest, listed, parts}
use Rattle.eval_words.specs.declared.code.FaultCode.{FaultCode}

-- ---- paths

-- the value at a place of a list
abbrev pub node_at : Nodes → ℕ → Option Data
node_at no_nodes i = None
node_at (node d ns) zero = Some d
node_at (node d ns) (suc i) = node_at ns i

-- the place of a whole number; none below 0
abbrev pub place_at : ℤ → Option ℕ
place_at (pos i) = Some i
place_at (negsuc i) = None

-- the place that a step names: a whole number from 0
abbrev pub place_in : Data → Option ℕ
place_in null = None
place_in (flag b) = None
place_in (whole z) = place_at z
place_in (words s) = None
place_in (items ps) = None
place_in (fields ms) = None

-- an item of the list, at the place that the step names
abbrev pub step_into_list : Nodes → Data → Option Data
step_into_list ns s = option_and_then (node_at ns) (place_in s)

-- an object is walked by the text of a key, a list by a whole number; any other step is missing
abbrev pub step_into : Data → Data → Option Data
step_into null s = None
step_into (flag b) s = None
step_into (whole z) s = None
step_into (words t) s = None
step_into (items ns) s = step_into_list ns s
step_into (fields ms) s = lookup (coerced s) ms

-- what stands at a path
abbrev pub walked : Nodes → Data → Option Data
walked no_nodes d = Some d
walked (node s path) d = option_and_then (walked path) (step_into d s)

-- ---- get_param

-- the bound value at the path, empty text where it is missing; F01 where no parameter has the name
abbrev pub parameter_at : SceneData → Data × Nodes → Result Data FaultCode
parameter_at scene (name, path) =
    wanted (option_and_then (λ s. lookup s scene.params) (text_in name)) (λ d. Ok (unwrap_or (walked path d) (words [])))

-- what get_param gives: of a name and a path, or of a name alone
abbrev pub parameter : SceneData → Data → Result Data FaultCode
parameter scene a = wanted (first_and_rest (parts a)) (parameter_at scene)

-- ---- get_resource and get_attr

-- the facts of a resource; one without facts counts as absent
abbrev pub facts_of : SceneData → List ℕ → Option Facts
facts_of scene name = option_map (λ (k : KnownFacts). k.facts) (find (λ (k : KnownFacts). bytes_eq k.name name) scene.facts)

-- the id, or null where the resource is absent
abbrev pub resource : SceneData → Data → Result Data FaultCode
resource scene a =
    wanted (text_in a) (λ name. Ok (unwrap_or (option_map (λ (f : Facts). words f.id) (facts_of scene name)) null))

-- the attribute at the path
abbrev pub attribute_at : Data × Nodes → Facts → Option Data
attribute_at (attribute, path) f =
    option_and_then (walked path) (option_and_then (λ s. lookup s f.attrs) (text_in attribute))

-- all attributes; or the attribute at the path
abbrev pub attributes_at : Nodes → Facts → Option Data
attributes_at no_nodes f = Some (fields f.attrs)
attributes_at (node attribute path) f = attribute_at (attribute, path) f

-- what the resource has there; null where it is missing or the resource is absent
abbrev pub attribute_of : SceneData → Data × Nodes → Result Data FaultCode
attribute_of scene (name, rest) =
    wanted (text_in name) (λ s. Ok (unwrap_or (option_and_then (attributes_at rest) (facts_of scene s)) null))

-- what get_attr gives, of a resource's name and a path; F01 where that isn't a list with a text first
abbrev pub attribute : SceneData → Data → Result Data FaultCode
attribute scene a = wanted (first_and_rest (listed a)) (attribute_of scene)

-- ---- get_file

-- the text of the file of that name
abbrev pub file_named : SceneData → List ℕ → Option (List ℕ)
file_named scene name = file_content scene.files name

-- the file's text; F01 where no file has the name
abbrev pub file : SceneData → Data → Result Data FaultCode
file scene a = wanted (option_and_then (file_named scene) (text_in a)) (λ text. Ok (words text))

-- ---- names of conditions

-- the value of the condition of that name; none where it has none
abbrev pub condition_named : SceneData → List ℕ → Option Bool
condition_named scene name = condition_value scene.conds name

-- the value of the condition of that name; the text as written where there is none
abbrev pub named_condition : SceneData → List ℕ → Data
named_condition scene name = unwrap_or (option_map flag (condition_named scene name)) (words name)
