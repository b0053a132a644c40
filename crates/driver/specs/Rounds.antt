-- Round the live engines, by rising number: which of them turns next.
use Rattle.std.specs.Prelude.{Contains, ℕ, ◌<◌, ◌≤◌}
use Rattle.core_state.specs.State.{StateData}
use Rattle.step_relation.specs.Nexts.{IsIdle}

-- going round from behind the engine `last`, 0 before the first, x comes before e
pub data IsPassed (last e x : ℕ) : Type 0 where
  between : last < x → x < e → IsPassed last e x
  above : e ≤ last → last < x → IsPassed last e x
  below : e ≤ last → x < e → IsPassed last e x

-- the first live engine on that way that has something to do
pub record IsNext (s : StateData) (last e : ℕ) : Type 0 where
  pub live : Contains s.live e
  pub busy : ¬ IsIdle s e
  pub passed : (x : ℕ) → Contains s.live x → IsPassed last e x → IsIdle s x

-- the lowest live engine from a number on that has something to do
pub record IsFirstFrom (s : StateData) (from e : ℕ) : Type 0 where
  pub live : Contains s.live e
  pub reached : from ≤ e
  pub busy : ¬ IsIdle s e
  pub lowest : (x : ℕ) → Contains s.live x → from ≤ x → x < e → IsIdle s x

-- none from a number on has
abbrev pub AreIdleFrom : StateData → ℕ → Type 0
AreIdleFrom s from = (x : ℕ) → Contains s.live x → from ≤ x → IsIdle s x
