-- The part of a list that is left, from one place on.
use Rattle.std.proofs.Common.{◌≡◌, ◌<◌, ◌≤◌, ◌+◌, ℕ, zero, suc, List, [], ◌∷◌, length, get_or, drop}
use Rattle.std.proofs.Common.{refl, ap, sym, subst, arith}
use Rattle.heat_value.specs.Data.{no_nodes, node, no_members, member}
use Rattle.heat_value.specs.Meaning.{data_of, nodes_of, members_of}
use Rattle.heat_value.specs.declared.value.Value.{Value}
use Rattle.heat_value.specs.declared.value.Member.{Member}

nodes_from : (vs : List Value) (n : ℕ) (v : Value) → n < length vs → v ≡ get_or vs n v
    → nodes_of (drop n vs) ≡ node (data_of v) (nodes_of (drop (suc n) vs))
nodes_from [] n v below at = absurd (omega (arith, below))
nodes_from (w ∷ vs) zero v below at = ap (λ (x : Value). node (data_of x) (nodes_of vs)) (sym at)
nodes_from (w ∷ vs) (suc n) v below at = nodes_from vs n v (omega (arith, below)) at

pub nodes_at : (vs : List Value) (n : ℕ) (v : Value) → n < length vs → v ≡ get_or vs n v
    → nodes_of (drop n vs) ≡ node (data_of v) (nodes_of (drop (n + 1) vs))
nodes_at vs n v below at =
    let next : suc n ≡ n + 1 = omega arith in
    subst (λ (m : ℕ). nodes_of (drop n vs) ≡ node (data_of v) (nodes_of (drop m vs))) next (nodes_from vs n v below at)

members_from : (es : List Member) (n : ℕ) (m : Member) → n < length es → m ≡ get_or es n m
    → members_of (drop n es) ≡ member m.key (data_of m.value) (members_of (drop (suc n) es))
members_from [] n m below at = absurd (omega (arith, below))
members_from (e ∷ es) zero m below at = ap (λ (x : Member). member x.key (data_of x.value) (members_of es)) (sym at)
members_from (e ∷ es) (suc n) m below at = members_from es n m (omega (arith, below)) at

pub members_at : (es : List Member) (n : ℕ) (m : Member) → n < length es → m ≡ get_or es n m
    → members_of (drop n es) ≡ member m.key (data_of m.value) (members_of (drop (n + 1) es))
members_at es n m below at =
    let next : suc n ≡ n + 1 = omega arith in
    subst (λ (k : ℕ). members_of (drop n es) ≡ member m.key (data_of m.value) (members_of (drop k es))) next
    (members_from es n m below at)

pub nodes_end : (vs : List Value) (n : ℕ) → length vs ≤ n → nodes_of (drop n vs) ≡ no_nodes
nodes_end [] zero above = refl
nodes_end [] (suc n) above = refl
nodes_end (v ∷ vs) zero above = absurd (omega (arith, above))
nodes_end (v ∷ vs) (suc n) above = nodes_end vs n (omega (arith, above))

pub members_end : (es : List Member) (n : ℕ) → length es ≤ n → members_of (drop n es) ≡ no_members
members_end [] zero above = refl
members_end [] (suc n) above = refl
members_end (e ∷ es) zero above = absurd (omega (arith, above))
members_end (e ∷ es) (suc n) above = members_end es n (omega (arith, above))
