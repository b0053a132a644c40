-- A part weighs less than the whole.
use Rattle.std.proofs.Common.{◌≡◌, ◌+◌, ◌*◌, ◌<◌, ℕ, zero, suc, List, [], ◌∷◌, length, get_or, ap, arith}
use Rattle.heat_value.specs.Meaning.{data_of, nodes_of, members_of, weight, nodes_weight, members_weight}
use Rattle.heat_value.specs.declared.value.Value.{Value}
use Rattle.heat_value.specs.declared.value.Member.{Member}

pub weight-value : (vs : List Value) (i : ℕ) (v : Value) → i < length vs → v ≡ get_or vs i v
    → 2 * weight (data_of v) < 2 * nodes_weight (nodes_of vs)
weight-value [] i v l e = absurd (omega arith)
weight-value (w ∷ vs) zero v l e = omega (arith, ap (λ (x : Value). weight (data_of x)) e)
weight-value (w ∷ vs) (suc i) v l e = omega (arith, weight-value vs i v (omega arith) e)

pub weight-member : (es : List Member) (i : ℕ) (x : Member) → i < length es → x ≡ get_or es i x
    → 2 * weight (data_of x.value) + 1 < 2 * members_weight (members_of es)
weight-member [] i x l e = absurd (omega arith)
weight-member (y ∷ es) zero x l e = omega (arith, ap (λ (z : Member). weight (data_of z.value)) e)
weight-member (y ∷ es) (suc i) x l e = omega (arith, weight-member es i x (omega arith) e)

pub ruleset for_walks = (weight-value, weight-member)
