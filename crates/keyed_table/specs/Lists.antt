-- Lists of records in the order of their keys, each key once.
use Rattle.std.specs.Prelude.{ℕ, suc, List, [], ◌∷◌, Option, Some, None, Result, Ok, Err, map}
use Rattle.std.specs.Ordering.{match_ordering}
use Rattle.std.specs.List.Sorted.{IsStrictlySortedBy}
use Rattle.std.specs.declared.cmp.Ordering.{Ordering}

-- the keys rise
abbrev pub IsSorted : {A K : Type 0} → (K → K → Ordering) → (A → K) → List A → Type 0
IsSorted order key xs = IsStrictlySortedBy order (map key xs)

-- the record of a key
abbrev pub at : {A K : Type 0} → (K → K → Ordering) → (A → K) → List A → K → Option A
at order key [] k = None
at order key (x ∷ xs) k = match_ordering (order (key x) k) (at order key xs k) (Some x) None

-- the list with a record over the one of its key, or else where its key belongs
abbrev pub put : {A K : Type 0} → (K → K → Ordering) → (A → K) → A → List A → List A
put order key x [] = x ∷ []
put order key x (y ∷ ys) = match_ordering (order (key y) (key x)) (y ∷ put order key x ys) (x ∷ ys) (x ∷ y ∷ ys)

-- the list without the record of a key
abbrev pub cut : {A K : Type 0} → (K → K → Ordering) → (A → K) → K → List A → List A
cut order key k [] = []
cut order key k (y ∷ ys) = match_ordering (order (key y) k) (y ∷ cut order key k ys) ys (y ∷ ys)

-- a place in a list with one record more in front
abbrev pub one_further : Result ℕ ℕ → Result ℕ ℕ
one_further (Ok i) = Ok (suc i)
one_further (Err i) = Err (suc i)

-- where the record of a key is, or else where the key belongs
abbrev pub place : {A K : Type 0} → (K → K → Ordering) → (A → K) → List A → K → Result ℕ ℕ
place order key [] k = Err 0
place order key (x ∷ xs) k = match_ordering (order (key x) k) (one_further (place order key xs k)) (Ok 0) (Err 0)

-- what a key had before is put back
abbrev pub restored : {A K : Type 0} → (K → K → Ordering) → (A → K) → K → Option A → List A → List A
restored order key k None xs = cut order key k xs
restored order key k (Some x) xs = put order key x xs
