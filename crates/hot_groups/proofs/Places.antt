-- What is left of a list from a place on, and the value at a place.
use Rattle.std.proofs.Common.{◌≡◌, ◌<◌, ◌≤◌, ◌+◌, ℕ, List, [], ◌∷◌, length, get_or, drop, ap, sym, ◌∙◌}
use Rattle.std.proofs.Common.{zero, suc, Option, Some, None, option_map, option_and_then, refl, arith}
use Rattle.std.specs.Slice.{IsItemAt}
use Rattle.std.proofs.lemmas.List.{drop_more, drop_all}
use Rattle.heat_value.specs.Data.{no_nodes, node, no_members, member}
use Rattle.heat_value.specs.Meaning.{data_of, nodes_of, members_of}
use Rattle.heat_value.specs.declared.value.Value.{Value}
use Rattle.heat_value.specs.declared.value.Member.{Member}
use Rattle.eval_words.specs.Lookups.{node_at}
use denote.Ref.{Bor}

rest_at : {X : Type 0} (xs : List X) (n : ℕ) (x d : X) → n < length xs → x ≡ get_or xs n d
    → drop n xs ≡ x ∷ drop (n + 1) xs
rest_at xs n x d below at = drop_more xs n d below ∙ ap (λ y. y ∷ drop (n + 1) xs) (sym at)

pub nodes_at : (vs : List Value) (n : ℕ) (v : Value) → n < length vs → v ≡ get_or vs n v
    → nodes_of (drop n vs) ≡ node (data_of v) (nodes_of (drop (n + 1) vs))
nodes_at vs n v below at = ap nodes_of (rest_at vs n v v below at)

pub nodes_end : (vs : List Value) (n : ℕ) → length vs ≤ n → nodes_of (drop n vs) ≡ no_nodes
nodes_end vs n above = ap nodes_of (drop_all n vs above)

pub members_at : (ms : List Member) (n : ℕ) (m : Member) → n < length ms → m ≡ get_or ms n m
    → members_of (drop n ms) ≡ member m.key (data_of m.value) (members_of (drop (n + 1) ms))
members_at ms n m below at = ap members_of (rest_at ms n m m below at)

pub members_end : (ms : List Member) (n : ℕ) → length ms ≤ n → members_of (drop n ms) ≡ no_members
members_end ms n above = ap members_of (drop_all n ms above)

-- ---- the value at a place

node_there : (vs : List Value) (n : ℕ) (v : Value) → n < length vs → v ≡ get_or vs n v
    → Some (data_of v) ≡ node_at (nodes_of vs) n
node_there [] n v below at = absurd (omega (arith, below))
node_there (w ∷ vs) zero v below at = ap (λ (x : Value). Some (data_of x)) at
node_there (w ∷ vs) (suc n) v below at = node_there vs n v (omega (arith, below)) at

node_past : (vs : List Value) (n : ℕ) → length vs ≤ n → None ≡ node_at (nodes_of vs) n
node_past [] n above = refl
node_past (v ∷ vs) zero above = absurd (omega (arith, above))
node_past (v ∷ vs) (suc n) above = node_past vs n (omega (arith, above))

got_node : (vs : List Value) (n : ℕ) (r : Option (Bor Value)) → IsItemAt vs n r
    → option_map (λ (v : Bor Value). data_of v.now) r ≡ node_at (nodes_of vs) n
got_node vs n None h = node_past vs n h.3
got_node vs n (Some v) h = node_there vs n v.now h.3.0 h.1

-- what is at a place that is named
pub at_named : (vs : List Value) (o : Option ℕ) (n : ℕ) (r : Option (Bor Value)) → o ≡ Some n → IsItemAt vs n r
    → option_map (λ (v : Bor Value). data_of v.now) r ≡ option_and_then (node_at (nodes_of vs)) o
at_named vs o n r named got = got_node vs n r got ∙ ap (option_and_then (node_at (nodes_of vs))) (sym named)
