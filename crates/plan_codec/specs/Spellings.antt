-- What it means that things have one spelling by bytes each, and what a reader may answer.
use Rattle.std.specs.Prelude.{◌≡◌, ◌++◌, ℕ, List}
use Rattle.plan_codec.specs.declared.unread.Unread.{Unread}
use Rattle.plan_codec.specs.declared.unread.Unread.TheVariants as unread

-- where two begin alike, whatever stands behind them, they are one
pub record IsUnique {A : Type 0} (spelled : A → List ℕ) (proper : A → Type 0) : Type 0 where
  pub one : (x y : A) (r q : List ℕ) → proper x → proper y → spelled x ++ r ≡ spelled y ++ q → (x ≡ y) × (r ≡ q)

-- the bytes are those of this proper thing, and the rest
pub record Takes {A : Type 0} (spelled : A → List ℕ) (proper : A → Type 0) (bytes : List ℕ) (x : A) (rest : List ℕ) :
    Type 0 where
  pub parts : bytes ≡ spelled x ++ rest
  pub fits : proper x

-- the bytes begin as no proper thing is spelled
pub record Lacks {A : Type 0} (spelled : A → List ℕ) (proper : A → Type 0) (bytes : List ℕ) : Type 0 where
  pub none : (x : A) (rest : List ℕ) → proper x → bytes ≡ spelled x ++ rest → ⊥

-- why nothing was read: memory, or there is nothing
abbrev pub Refuses : {A : Type 0} → (A → List ℕ) → (A → Type 0) → List ℕ → Unread → Type 0
Refuses spelled proper bytes unread.Memory = Unit {0}
Refuses spelled proper bytes unread.Unspelled = Lacks spelled proper bytes

-- the same things under two types, spelled alike and proper alike
pub record Regroups {A B : Type 0} (spelled : A → List ℕ) (proper : A → Type 0) (spelled_as : B → List ℕ)
    (proper_as : B → Type 0) : Type 0 where
  pub to : A → B
  pub from : B → A
  pub back : (x : A) → from (to x) ≡ x
  pub again : (y : B) → to (from y) ≡ y
  pub alike : (y : B) → spelled_as y ≡ spelled (from y)
  pub keeps : (x : A) → proper x → proper_as (to x)
  pub gives : (y : B) → proper_as y → proper (from y)
