-- A test over names that are read off a list.
use Rattle.std.proofs.Common.{◌≡◌, ◌∙◌, ◌<◌, ◌&&◌, ℕ, zero, suc, List, [], ◌∷◌, Bool, true, false, not, map}
use Rattle.std.proofs.Common.{length, get_or, drop, refl, ap, subst, arith, Option, Some, None, option_map}
use Rattle.std.proofs.Common.{bytes_eq, if◌then◌else◌}
use denote.Ref.{Bor}
use Rattle.type_catalog.specs.Names.{is_listed, are_distinct, named}

twice : (a b : Bool) → a ≡ true → (not a && b) ≡ false
twice a b e = ap (λ x. not x && b) e

-- a name that stands again behind its place stands twice
pub twice_there : {T : Type 0} (name_of : T → List ℕ) (xs : List T) (i : ℕ) (x : T) → i < length xs → x ≡ get_or xs i x
    → is_listed (map name_of (drop (suc i) xs)) (name_of x) ≡ true → are_distinct (map name_of (drop i xs)) ≡ false
twice_there name_of [] i x below at e = absurd (omega (arith, below))
twice_there name_of (y ∷ ys) zero x below at e =
    twice _ _ (subst (λ (z : _). is_listed (map name_of ys) (name_of z) ≡ true) at e)
twice_there name_of (y ∷ ys) (suc i) x below at e = twice_there name_of ys i x (omega (arith, below)) at e

named_by : {T K : Type 0} (h : T → K) (x : T) (o : Option T) (p : Option K) (b : Bool) → option_map h o ≡ p
    → option_map h (if b then Some x else o) ≡ (if b then Some (h x) else p)
named_by h x o p true e = refl
named_by h x o p false e = e

-- what stands under a name in what is read off a list is read off what stands there
pub named-map : {T K : Type 0} (h : T → K) (name_of : K → List ℕ) (n : List ℕ) (xs : List T)
    → option_map h (named (λ x. name_of (h x)) n xs) ≡ named name_of n (map h xs)
named-map h name_of n [] = refl
named-map h name_of n (x ∷ xs) = named_by h x _ _ (bytes_eq (name_of (h x)) n) (named-map h name_of n xs)

-- the same of a reference to it
pub read_off : {T K : Type 0} (h : T → K) (name_of : K → List ℕ) (n : List ℕ) (xs : List T) (r : Option (Bor T))
    → option_map (λ (x : Bor T). x.now) r ≡ named (λ x. name_of (h x)) n xs
    → option_map (λ (x : Bor T). h x.now) r ≡ named name_of n (map h xs)
read_off h name_of n xs None e = ap (option_map h) e ∙ named-map h name_of n xs
read_off h name_of n xs (Some x) e = ap (option_map h) e ∙ named-map h name_of n xs
