-- A test of each part is settled where one part settles it.
use Rattle.std.proofs.Common.{◌≡◌, ◌<◌, ◌&&◌, ◌||◌, ℕ, zero, suc, List, [], ◌∷◌, Bool, true, false, length, get_or}
use Rattle.std.proofs.Common.{drop}
use Rattle.std.proofs.Common.{bytes_eq, ap, subst, arith}
use Rattle.heat_value.specs.Meaning.{data_of, nodes_of, members_of}
use Rattle.heat_value.specs.declared.value.Value.{Value}
use Rattle.heat_value.specs.declared.value.Member.{Member}
use Rattle.hot_forms.specs.Checks.{is_among}
use Rattle.hot_forms.specs.Shapes.{is_object}
use Rattle.hot_functions.specs.Forms.{is_condition, are_conditions, are_among, stands, holds_object}

fails : (a b : Bool) → a ≡ false → (a && b) ≡ false
fails a b e = ap (λ x. x && b) e

holds : (a b : Bool) → a ≡ true → (a || b) ≡ true
holds a b e = ap (λ x. x || b) e

pub conditions_stop : (vs : List Value) (n : ℕ) (v : Value) → n < length vs → v ≡ get_or vs n v
    → is_condition (data_of v) ≡ false → are_conditions (nodes_of (drop n vs)) ≡ false
conditions_stop [] n v below at e = absurd (omega (arith, below))
conditions_stop (w ∷ vs) zero v below at e =
    fails _ _ (subst (λ (x : Value). is_condition (data_of x) ≡ false) at e)
conditions_stop (w ∷ vs) (suc n) v below at e = conditions_stop vs n v (omega (arith, below)) at e

pub among_stop : (known : List (List ℕ)) (es : List Member) (n : ℕ) (m : Member) → n < length es → m ≡ get_or es n m
    → is_among known m.key ≡ false → are_among known (members_of (drop n es)) ≡ false
among_stop known [] n m below at e = absurd (omega (arith, below))
among_stop known (l ∷ es) zero m below at e =
    fails _ _ (subst (λ (x : Member). is_among known x.key ≡ false) at e)
among_stop known (l ∷ es) (suc n) m below at e = among_stop known es n m (omega (arith, below)) at e

pub stands_stop : (key : List ℕ) (es : List Member) (n : ℕ) (m : Member) → n < length es → m ≡ get_or es n m
    → bytes_eq m.key key ≡ true → stands key (members_of (drop n es)) ≡ true
stands_stop key [] n m below at e = absurd (omega (arith, below))
stands_stop key (l ∷ es) zero m below at e = holds _ _ (subst (λ (x : Member). bytes_eq x.key key ≡ true) at e)
stands_stop key (l ∷ es) (suc n) m below at e = stands_stop key es n m (omega (arith, below)) at e

pub object_stop : (key : List ℕ) (es : List Member) (n : ℕ) (m : Member) → n < length es → m ≡ get_or es n m
    → (bytes_eq m.key key && is_object (data_of m.value)) ≡ true → holds_object key (members_of (drop n es)) ≡ true
object_stop key [] n m below at e = absurd (omega (arith, below))
object_stop key (l ∷ es) zero m below at e =
    holds _ _ (subst (λ (x : Member). (bytes_eq x.key key && is_object (data_of x.value)) ≡ true) at e)
object_stop key (l ∷ es) (suc n) m below at e = object_stop key es n m (omega (arith, below)) at e
