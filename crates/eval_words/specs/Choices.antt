-- The choices that a repeat goes through.
use Rattle.std.specs.Prelude.{ℕ, List, [], ◌∷◌, ◌++◌, Option, Some, Result, Ok, Err, map}
use Rattle.std.specs.Prelude.{option_map, option_and_then, codes, if◌then◌else◌}
use Rattle.std.specs.List.{list_any}
use Rattle.heat_value.specs.Data.{Data, Nodes, no_nodes, node, Members, no_members, member, lookup}
use Rattle.hot_forms.specs.Shapes.{members_in}
use Rattle.eval_words.specs.Sorts.{wanted, list_in, object_in}
use Rattle.eval_words.specs.Texts.{is_empty}
use Rattle.eval_words.specs.declared.code.FaultCode.{FaultCode}
use Rattle.eval_words.specs.declared.code.FaultCode.TheVariants.{F03}

-- keys with their lists of items
abbrev pub Lists : Type 0
Lists = List (List ℕ × Nodes)

-- one item for each key
abbrev pub Choice : Type 0
Choice = List (List ℕ × Data)

-- the choices that take an item of this list, and one of those others
abbrev pub each_with : List ℕ → Nodes → List Choice → List Choice
each_with k no_nodes others = []
each_with k (node d ns) others = map (λ c. (k, d) ∷ c) others ++ each_with k ns others

-- every choice of one item per key, the last key's items going fastest; of no key there is one choice
abbrev pub choices : Lists → List Choice
choices [] = [] ∷ []
choices ((k, ns) ∷ rest) = each_with k ns (choices rest)

-- the lists of an object, in byte order of its keys; none where some value is no list
abbrev pub lists_in : Members → Option Lists
lists_in no_members = Some []
lists_in (member k d ms) = option_and_then (λ ns. option_map (λ ls. (k, ns) ∷ ls) (lists_in ms)) (list_in d)

-- what a repeat does: its choices, and its literal template
abbrev pub Repetition : Type 0
Repetition = List Choice × Data

-- F03 for an empty key
abbrev pub repeat_over : Data → Lists → Result Repetition FaultCode
repeat_over template lists =
    if list_any (λ l. is_empty l.0) lists then Err F03 else Ok (choices lists, template)

-- what the argument asks for, once `for_each` is evaluated
abbrev pub repetition : Data → Result Repetition FaultCode
repetition a =
    wanted (lookup (codes "template") (members_in a)) (λ template.
    wanted (option_and_then lists_in (option_and_then object_in (lookup (codes "for_each") (members_in a))))
    (repeat_over template))
