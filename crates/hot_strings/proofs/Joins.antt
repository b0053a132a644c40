-- What is left to join behind the items so far.
use Rattle.std.proofs.Common.{◌≡◌, ◌+◌, ◌<◌, ℕ, suc, List, [], ◌∷◌, ◌++◌, length, drop, get_or, refl, ap, sym, append_assoc, add-one, drop-cons}
use Rattle.std.proofs.lemmas.List.{append-nil}
use Rattle.hot_strings.specs.Joined.{joined}

-- each item with the delimiter before it
abbrev pub joined_on : List ℕ → List (List ℕ) → List ℕ
joined_on d [] = []
joined_on d (x ∷ xs) = d ++ (x ++ joined_on d xs)

pub joined-cons : (d x : List ℕ) (xs : List (List ℕ)) → joined d (x ∷ xs) ≡ x ++ joined_on d xs
joined-cons d x [] = sym (append-nil x)
joined-cons d x (y ∷ ys) = ap (λ t. x ++ (d ++ t)) (joined-cons d y ys)

-- the next item goes behind what stands
pub joined_on-step : (out d : List ℕ) (xs : List (List ℕ)) (i : ℕ) (x : List ℕ) → i < length xs → x ≡ get_or xs i x
    → out ++ joined_on d (drop i xs) ≡ ((out ++ d) ++ x) ++ joined_on d (drop (i + 1) xs)
joined_on-step out d xs i x l e =
    rw (add-one, drop-cons xs i x l, ← e) (rw (append_assoc (out ++ d) x (joined_on d (drop (suc i) xs)), append_assoc out d (x ++ joined_on d (drop (suc i) xs))) refl)
