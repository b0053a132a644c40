-- Lists that begin with one another, and facts of each element.
use Rattle.std.proofs.Common.{◌≤◌, ◌+◌, ◌++◌, List, [], ◌∷◌, length, get_or, sym, ap, ◌∙◌, subst, arith, zero, suc, append_assoc, append-nil, length-append}
use Rattle.std.specs.Prelude.{All}
use Rattle.std.proofs.lemmas.List.{get_or_append_left, get_or-append-add}
use mathlib.Core.List.{IsPrefix}

module _ {E : Type 0} where
  pub length-prefix : (xs ys : List E) → IsPrefix xs ys → length xs ≤ length ys
  length-prefix xs ys (zs, e) = omega (arith, length-append xs zs, ap length e)

  pub prefix-trans : (xs ys zs : List E) → IsPrefix xs ys → IsPrefix ys zs → IsPrefix xs zs
  prefix-trans xs ys zs (us, e) (vs, d) = (us ++ vs, sym (append_assoc xs us vs) ∙ ap (λ (l : List E). l ++ vs) e ∙ d)

  pub prefix-refl : (xs : List E) → IsPrefix xs xs
  prefix-refl xs = ([], append-nil xs)

module _ {X : Type 0} (P : X → Type 0) where
  pub All-head : (x : X) (xs : List X) → All P (x ∷ xs) → P x
  All-head x xs a = a zero x (omega arith)

  pub All-tail : (x : X) (xs : List X) → All P (x ∷ xs) → All P xs
  All-tail x xs a k d h = a (suc k) d (omega arith)

  pub All-weaker : (Q : X → Type 0) → ((x : X) → P x → Q x) → (xs : List X) → All P xs → All Q xs
  All-weaker Q f xs a k d h = f (get_or xs k d) (a k d h)

  pub All-left : (xs ys : List X) → All P (xs ++ ys) → All P xs
  All-left xs ys a k d h = subst P (get_or_append_left xs ys d k h) (a k d (omega (arith, h, length-append xs ys)))

  pub All-right : (xs ys : List X) → All P (xs ++ ys) → All P ys
  All-right xs ys a k d h = subst P (get_or-append-add xs ys k d) (a (length xs + k) d (omega (arith, h, length-append xs ys)))
