-- Members of lists.
use Rattle.std.proofs.Common.{◌≡◌, ◌⊎◌, zero, suc, List, [], ◌∷◌, Contains, sym, subst, inl, inr, arith}
use Rattle.std.proofs.lemmas.List.Elements.{Contains-append_right}
use Rattle.traversal_graph.proofs.EachMembers.{Contains-front}

pub none_in : {A : Type 0} (x : A) → Contains [] x → ⊥
none_in x (k, lt, e) = absurd (omega (arith, lt))

pub front_cases : {A : Type 0} (y : A) (xs : List A) (x : A) → Contains (y ∷ xs) x → (x ≡ y) ⊎ Contains xs x
front_cases y xs x (zero, lt, e) = inl (sym e)
front_cases y xs x (suc k, lt, e) = inr (k, omega (arith, lt), e)

pub behind : {A : Type 0} (y : A) (xs : List A) (x : A) → Contains xs x → Contains (y ∷ xs) x
behind y xs x h = Contains-append_right (y ∷ []) xs x h

pub first_is : {A : Type 0} (y : A) (xs : List A) (x : A) → x ≡ y → Contains (y ∷ xs) x
first_is {A = A} y xs x e = let In : A → Type 0 = λ z. Contains (y ∷ xs) z in subst In (sym e) (Contains-front y xs)
