-- What one more value makes of a list.
use Rattle.std.proofs.Common.{◌≡◌, List, [], ◌∷◌, ◌++◌, refl, ap}
use Rattle.heat_value.specs.Data.{node, node_last}
use Rattle.heat_value.specs.Meaning.{data_of, nodes_of}
use Rattle.heat_value.specs.declared.value.Value.{Value}

pub nodes_of_push : (vs : List Value) (v : Value) → nodes_of (vs ++ v ∷ []) ≡ node_last (nodes_of vs) (data_of v)
nodes_of_push [] v = refl
nodes_of_push (w ∷ vs) v = ap (node (data_of w)) (nodes_of_push vs v)
