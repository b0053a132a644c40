-- The first of the list that is nobody's.
use Rattle.std.specs.Prelude.{List, None, Option, Some, ℕ, ◌<◌, ◌≡◌, slice_get}
use Rattle.provider.specs.declared.alive.Alive.{Alive}
use Rattle.core_state.specs.State.{StateData}
use Rattle.step_relation.specs.Compared.{IsExpected}

-- the first so many are somebody's
abbrev pub AreExpected : StateData → List Alive → ℕ → Type 0
AreExpected s all n = (m : ℕ) (a : Alive) → m < n → slice_get all m ≡ Some a → IsExpected s a.token

-- this is nobody's, and all before it are somebody's
pub record IsFirstStranger (s : StateData) (all : List Alive) (a : Alive) : Type 0 where
  pub place : ℕ
  pub there : slice_get all place ≡ Some a
  pub strange : ¬ IsExpected s a.token
  pub first : AreExpected s all place

-- the first, or none where all are somebody's
pub record IsStranger (s : StateData) (all : List Alive) (found : Option Alive) : Type 0 where
  pub none : found ≡ None → (m : ℕ) (a : Alive) → slice_get all m ≡ Some a → IsExpected s a.token
  pub some : (a : Alive) → found ≡ Some a → IsFirstStranger s all a
