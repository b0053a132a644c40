-- Tables: lists of records, each with a key.
use Rattle.std.specs.Prelude.{Bool, List, [], ◌∷◌, Option, Some, None, cond, filter, not}

-- the record with this key
unfoldable pub at : {K A : Type 0} → (K → K → Bool) → (A → K) → List A → K → Option A
at same key [] k = None
at same key (x ∷ xs) k = cond (same (key x) k) (Some x) (at same key xs k)

-- the record in place of the one with its key, or at the end
unfoldable pub put : {K A : Type 0} → (K → K → Bool) → (A → K) → A → List A → List A
put same key x [] = x ∷ []
put same key x (y ∷ ys) = cond (same (key y) (key x)) (x ∷ ys) (y ∷ put same key x ys)

-- without the records with this key
unfoldable pub cut : {K A : Type 0} → (K → K → Bool) → (A → K) → K → List A → List A
cut same key k = filter (λ x. not (same (key x) k))
