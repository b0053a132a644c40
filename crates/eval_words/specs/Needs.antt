-- The resources that a value, or a map of properties, names.
use Rattle.std.specs.Prelude.{ℕ, List, [], ◌++◌, ◌↔◌, Contains, Option, None, option_to_list, option_and_then}
use Rattle.std.specs.Prelude.{codes, bytes_eq, if◌then◌else◌}
use Rattle.heat_value.specs.Data.{Data, null, flag, whole, words, items, fields, Nodes, no_nodes, node}
use Rattle.heat_value.specs.Data.{Members, no_members, member}
use Rattle.heat_plan.specs.Names.{IsResName}
use Rattle.heat_plan.specs.Order.{Rising}
use Rattle.hot_functions.specs.Forms.{lone}
use Rattle.eval_words.specs.Sorts.{text_in, list_in, first_and_rest}

-- the name in a get_attr's argument: the first of a list, where it is a text
abbrev pub first_text : Data → Option (List ℕ)
first_text a = option_and_then (λ p. text_in p.0) (option_and_then first_and_rest (list_in a))

-- the name that an object with this one key refers to: in the argument of get_resource, or first in that of get_attr
abbrev pub referred : List ℕ × Data → Option (List ℕ)
referred (k, d) =
    if bytes_eq k (codes "get_resource") then text_in d else (
    if bytes_eq k (codes "get_attr") then first_text d else None)

-- the name that an object refers to as a get_resource or get_attr itself, if it does
abbrev pub own_reference : Members → List (List ℕ)
own_reference ms = option_to_list (option_and_then referred (lone ms))

-- the names in every get_resource and get_attr anywhere in it, in reading order
abbrev mutual
  pub references_in : Data → List (List ℕ)
  references_in null = []
  references_in (flag b) = []
  references_in (whole z) = []
  references_in (words s) = []
  references_in (items ns) = references_among ns
  references_in (fields ms) = own_reference ms ++ references_under ms

  -- the same in a list's values
  pub references_among : Nodes → List (List ℕ)
  references_among no_nodes = []
  references_among (node d ns) = references_in d ++ references_among ns

  -- the same in the members of an object that is no function itself, as a map of properties
  pub references_under : Members → List (List ℕ)
  references_under no_members = []
  references_under (member k d ms) = references_in d ++ references_under ms

-- of the names that are given those that a resource may have
abbrev pub AreResNamesOf : List (List ℕ) → List (List ℕ) → Type 0
AreResNamesOf named names = (name : List ℕ) → Contains names name ↔ (Contains named name × IsResName name)

-- what is needed where these names stand: those that a resource may have, in byte order, each once
pub record AreNeeds (named : List (List ℕ)) (needs : List (List ℕ)) : Type 0 where
  pub rising : Rising needs
  pub each : AreResNamesOf named needs
