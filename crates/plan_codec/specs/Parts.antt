-- Pairs, options and lists as bytes, from the spelling of their parts.
use Rattle.std.specs.Prelude.{ℕ, ◌<◌, ◌^◌, List, [], ◌∷◌, ◌++◌, length, All, Option, Some, None, IfSome}
use Rattle.std.specs.List.{flat_map}
use Rattle.plan_codec.specs.Numbers.{spelled_number}

-- the first part, then the second
abbrev pub spelled_pair : {A B : Type 0} → (A → List ℕ) → (B → List ℕ) → A × B → List ℕ
spelled_pair first second p = first p.0 ++ second p.1

abbrev pub AreBoth : {A B : Type 0} → (A → Type 0) → (B → Type 0) → A × B → Type 0
AreBoth first second p = first p.0 × second p.1

-- 0 for none; 1 and what is there
abbrev pub spelled_option : {A : Type 0} → (A → List ℕ) → Option A → List ℕ
spelled_option spelled None = 0 ∷ []
spelled_option spelled (Some x) = 1 ∷ spelled x

abbrev pub IsIfSome : {A : Type 0} → (A → Type 0) → Option A → Type 0
IsIfSome proper o = IfSome o proper

-- how many there are, and each in order
abbrev pub spelled_list : {A : Type 0} → (A → List ℕ) → List A → List ℕ
spelled_list spelled xs = spelled_number (length xs) ++ flat_map spelled xs

abbrev pub AreAll : {A : Type 0} → (A → Type 0) → List A → Type 0
AreAll proper xs = (length xs < 2 ^ 64) × All proper xs
