-- How many parts lists and objects have.
use Rattle.std.proofs.Common.{◌≡◌, List, [], ◌∷◌, length, refl, arith}
use Rattle.heat_value.specs.Meaning.{nodes_of, members_of}
use Rattle.heat_value.specs.declared.value.Value.{Value}
use Rattle.heat_value.specs.declared.value.Member.{Member}
use Rattle.hot_params.specs.Sizes.{count_nodes, count_members}

pub count_nodes-of : (vs : List Value) → count_nodes (nodes_of vs) ≡ length vs
count_nodes-of [] = refl
count_nodes-of (v ∷ vs) = omega (arith, count_nodes-of vs)

pub count_members-of : (es : List Member) → count_members (members_of es) ≡ length es
count_members-of [] = refl
count_members-of (e ∷ es) = omega (arith, count_members-of es)
