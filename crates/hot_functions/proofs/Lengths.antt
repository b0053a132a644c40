-- What the length of a list says of the list or object that it makes.
use Rattle.std.proofs.Common.{◌≡◌, ◌<◌, ◌≤◌, ℕ, suc, List, [], ◌∷◌, Some, None, length, get_or, drop, refl, ap, sym}
use Rattle.std.proofs.Common.{◌∙◌, arith}
use Rattle.heat_value.specs.Data.{no_nodes, node}
use Rattle.heat_value.specs.Meaning.{data_of, nodes_of, members_of}
use Rattle.heat_value.specs.declared.value.Value.{Value}
use Rattle.heat_value.specs.declared.value.Member.{Member}
use Rattle.hot_functions.specs.Forms.{lone, count_of}

pub count_length : (vs : List Value) → length vs ≡ count_of (nodes_of vs)
count_length [] = refl
count_length (v ∷ vs) = omega (arith, count_length vs)

pub no_values : (vs : List Value) → length vs < 1 → nodes_of vs ≡ no_nodes
no_values [] below = refl
no_values (v ∷ vs) below = absurd (omega (arith, below))

pub first_value : (vs : List Value) (v : Value) → v ≡ get_or vs 0 v → 1 ≤ length vs
    → nodes_of vs ≡ node (data_of v) (nodes_of (drop 1 vs))
first_value [] v at above = absurd (omega (arith, above))
first_value (w ∷ vs) v at above = ap (λ (x : Value). node (data_of x) (nodes_of vs)) (sym at)

pub one_value : (vs : List Value) (v : Value) → v ≡ get_or vs 0 v → 1 ≤ length vs → length vs < 2
    → nodes_of vs ≡ node (data_of v) no_nodes
one_value [] v at above below = absurd (omega (arith, above))
one_value (w ∷ []) v at above below = ap (λ (x : Value). node (data_of x) no_nodes) (sym at)
one_value (w ∷ x ∷ vs) v at above below = absurd (omega (arith, below))

pub two_values : (vs : List Value) (v w : Value) → v ≡ get_or vs 0 v → w ≡ get_or vs 1 w → 2 ≤ length vs
    → nodes_of vs ≡ node (data_of v) (node (data_of w) (nodes_of (drop 2 vs)))
two_values [] v w at then' above = absurd (omega (arith, above))
two_values (x ∷ []) v w at then' above = absurd (omega (arith, above))
two_values (x ∷ y ∷ vs) v w at then' above =
    ap (λ (z : Value). node (data_of z) (node (data_of y) (nodes_of vs))) (sym at)
    ∙ ap (λ (z : Value). node (data_of v) (node (data_of z) (nodes_of vs))) (sym then')

pub lone_one : (es : List Member) (m : Member) → m ≡ get_or es 0 m → 1 ≤ length es → length es < 2
    → Some (m.key, data_of m.value) ≡ lone (members_of es)
lone_one [] m at above below = absurd (omega (arith, above))
lone_one (e ∷ []) m at above below = ap (λ (x : Member). Some (x.key, data_of x.value)) at
lone_one (e ∷ f ∷ es) m at above below = absurd (omega (arith, below))

pub lone_none : (es : List Member) → length es < 1 → None ≡ lone (members_of es)
lone_none [] below = refl
lone_none (e ∷ es) below = absurd (omega (arith, below))

pub lone_more : (es : List Member) → 2 ≤ length es → None ≡ lone (members_of es)
lone_more [] above = absurd (omega (arith, above))
lone_more (e ∷ []) above = absurd (omega (arith, above))
lone_more (e ∷ f ∷ es) above = refl
