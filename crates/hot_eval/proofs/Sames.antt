-- Equality of values as a flag is equality.
use Rattle.std.proofs.Common.{◌≡◌, ◌<◌, ◌&&◌, ◌||◌, ◌↔◌, ℕ, zero, suc, List, [], ◌∷◌, Bool, true, false, IsTrue}
use Rattle.std.proofs.Common.{length, get_or, drop, refl, ap, subst, arith, bytes_eq}
use Rattle.std.proofs.lemmas.Bool.Decides.{Decides-int_eq, same_from_decides}
use Rattle.std.proofs.lemmas.Slice.Eq.{bytes_eq-Decides}
use Rattle.std.specs.Bool.{Decides}
use Rattle.std.specs.Cmp.{booleans_Decides}
use Rattle.heat_value.proofs.Sameness.{same_data}
use Rattle.heat_value.specs.Data.{Data, null, flag, whole, words, items, fields, Nodes, no_nodes, node}
use Rattle.heat_value.specs.Data.{Members, no_members, member}
use Rattle.heat_value.specs.Meaning.{data_of, nodes_of}
use Rattle.heat_value.specs.declared.value.Value.{Value}
use Rattle.eval_words.specs.Sameness.{is_same, are_same, hold_same, has}

both : (a b : Bool) → (a && b) ≡ true → (a ≡ true) × (b ≡ true)
both true b e = (refl, e)
both false b e = cc

mutual
  pub is_same-Decides : (d e : Data) → Decides (is_same d e) (d ≡ e)
  is_same-Decides null null = (λ h. refl, λ h. refl)
  is_same-Decides (flag a) (flag b) =
      (λ h. ap flag ((booleans_Decides a b).0 h), λ h. (let e : a ≡ b = cc in (booleans_Decides a b).1 e))
  is_same-Decides (whole a) (whole b) =
      (λ h. ap whole ((Decides-int_eq a b).0 h), λ h. (let e : a ≡ b = cc in (Decides-int_eq a b).1 e))
  is_same-Decides (words a) (words b) =
      (λ h. ap words ((bytes_eq-Decides a b).0 h), λ h. (let e : a ≡ b = cc in (bytes_eq-Decides a b).1 e))
  is_same-Decides (items a) (items b) =
      (λ h. ap items ((are_same-Decides a b).0 h), λ h. (let e : a ≡ b = cc in (are_same-Decides a b).1 e))
  is_same-Decides (fields a) (fields b) =
      (λ h. ap fields ((hold_same-Decides a b).0 h), λ h. (let e : a ≡ b = cc in (hold_same-Decides a b).1 e))
  is_same-Decides _ _ = (λ h. cc, λ h. cc)

  are_same-Decides : (ms ns : Nodes) → Decides (are_same ms ns) (ms ≡ ns)
  are_same-Decides no_nodes no_nodes = (λ h. refl, λ h. refl)
  are_same-Decides no_nodes (node e ns) = (λ h. cc, λ h. cc)
  are_same-Decides (node d ms) no_nodes = (λ h. cc, λ h. cc)
  are_same-Decides (node d ms) (node e ns) = (
    λ h. (
        let t = both (is_same d e) (are_same ms ns) h in
        let here : d ≡ e = (is_same-Decides d e).0 t.0 in
        let rest : ms ≡ ns = (are_same-Decides ms ns).0 t.1 in cc
        ),
    λ h. (
        let here : d ≡ e = cc in
        let rest : ms ≡ ns = cc in
        rw ((is_same-Decides d e).1 here, (are_same-Decides ms ns).1 rest) refl
        ),
  )

  hold_same-Decides : (ms ns : Members) → Decides (hold_same ms ns) (ms ≡ ns)
  hold_same-Decides no_members no_members = (λ h. refl, λ h. refl)
  hold_same-Decides no_members (member l e ns) = (λ h. cc, λ h. cc)
  hold_same-Decides (member k d ms) no_members = (λ h. cc, λ h. cc)
  hold_same-Decides (member k d ms) (member l e ns) = (
    λ h. (
        let t = both (bytes_eq k l && is_same d e) (hold_same ms ns) h in
        let u = both (bytes_eq k l) (is_same d e) t.0 in
        let key : k ≡ l = (bytes_eq-Decides k l).0 u.0 in
        let here : d ≡ e = (is_same-Decides d e).0 u.1 in
        let rest : ms ≡ ns = (hold_same-Decides ms ns).0 t.1 in cc
        ),
    λ h. (
        let key : k ≡ l = cc in
        let here : d ≡ e = cc in
        let rest : ms ≡ ns = cc in
        rw ((bytes_eq-Decides k l).1 key, (is_same-Decides d e).1 here, (hold_same-Decides ms ns).1 rest) refl
        ),
  )

-- what `equals` answers
pub answers_same : (v w : Value) (r : Bool) → IsTrue r ↔ (v ≡ w) → r ≡ is_same (data_of v) (data_of w)
answers_same v w r is =
    same_from_decides r (is_same (data_of v) (data_of w))
    (λ h. ap data_of (is.0 h), λ h. is.1 (same_data v w h))
    (is_same-Decides (data_of v) (data_of w))

-- a list has a value that stands in it
pub has_stop : (d : Data) (vs : List Value) (n : ℕ) (v : Value) → n < length vs → v ≡ get_or vs n v
    → is_same d (data_of v) ≡ true → has d (nodes_of (drop n vs)) ≡ true
has_stop d [] n v below at e = absurd (omega (arith, below))
has_stop d (w ∷ vs) zero v below at e =
    ap (λ b. b || has d (nodes_of vs)) (subst (λ (x : Value). is_same d (data_of x) ≡ true) at e)
has_stop d (w ∷ vs) (suc n) v below at e = has_stop d vs n v (omega (arith, below)) at e
