-- A test of each part of a value fails where one part fails it.
use Rattle.std.proofs.Common.{◌≡◌, ◌<◌, ◌&&◌, ◌||◌, ℕ, zero, suc, List, [], ◌∷◌, Bool, false, length, get_or, drop}
use Rattle.std.proofs.Common.{is_some, bytes_eq}
use Rattle.std.proofs.Common.{codes, refl, ap, subst, arith}
use Rattle.heat_value.specs.Meaning.{data_of, nodes_of, members_of}
use Rattle.heat_value.specs.declared.value.Value.{Value}
use Rattle.heat_value.specs.declared.value.Member.{Member}
use Rattle.hot_forms.specs.Shapes.{is_text, are_texts}
use Rattle.hot_forms.specs.Checks.{is_among}
use Rattle.hot_forms.specs.Constraints.{rule_of, is_whole, is_count, are_bounds, are_counts, has_no_more}
use Rattle.hot_forms.specs.Constraints.{is_constraint, are_constraints}

fails : (a b : Bool) → a ≡ false → (a && b) ≡ false
fails a b e = ap (λ x. x && b) e

pub texts_stop : (vs : List Value) (n : ℕ) (v : Value) → n < length vs → v ≡ get_or vs n v
    → is_text (data_of v) ≡ false → are_texts (nodes_of (drop n vs)) ≡ false
texts_stop [] n v below at e = absurd (omega (arith, below))
texts_stop (w ∷ vs) zero v below at e = fails _ _ (subst (λ (x : Value). is_text (data_of x) ≡ false) at e)
texts_stop (w ∷ vs) (suc n) v below at e = texts_stop vs n v (omega (arith, below)) at e

pub constraints_stop : (vs : List Value) (n : ℕ) (v : Value) → n < length vs → v ≡ get_or vs n v
    → is_constraint (data_of v) ≡ false → are_constraints (nodes_of (drop n vs)) ≡ false
constraints_stop [] n v below at e = absurd (omega (arith, below))
constraints_stop (w ∷ vs) zero v below at e =
    fails _ _ (subst (λ (x : Value). is_constraint (data_of x) ≡ false) at e)
constraints_stop (w ∷ vs) (suc n) v below at e = constraints_stop vs n v (omega (arith, below)) at e

pub counts_stop : (es : List Member) (n : ℕ) (m : Member) → n < length es → m ≡ get_or es n m
    → is_count (data_of m.value) ≡ false → are_counts (members_of (drop n es)) ≡ false
counts_stop [] n m below at e = absurd (omega (arith, below))
counts_stop (l ∷ es) zero m below at e = fails _ _ (subst (λ (x : Member). is_count (data_of x.value) ≡ false) at e)
counts_stop (l ∷ es) (suc n) m below at e = counts_stop es n m (omega (arith, below)) at e

abbrev pub part : Member → Bool
part m = is_some (rule_of m.key) || (bytes_eq m.key (codes "description") && is_text (data_of m.value))

pub parts_stop : (es : List Member) (n : ℕ) (m : Member) → n < length es → m ≡ get_or es n m
    → part m ≡ false → has_no_more (members_of (drop n es)) ≡ false
parts_stop [] n m below at e = absurd (omega (arith, below))
parts_stop (l ∷ es) zero m below at e = fails _ _ (subst (λ (x : Member). part x ≡ false) at e)
parts_stop (l ∷ es) (suc n) m below at e = parts_stop es n m (omega (arith, below)) at e
