-- A run of turns alone has at most as many as its first state has work.
use Rattle.std.specs.Prelude.{List, suc, zero, ℕ, ◌+◌, ◌++◌, ◌≡◌, ◌≤◌}
use Rattle.provider.specs.Cloud.{Cloud}
use Rattle.core_state.specs.Changes.{applied}
use Rattle.core_state.specs.State.{StateData}
use Rattle.core_state.specs.declared.change.Change.{Change}
use Rattle.core_state.specs.declared.entry.Entry.{Entry}
use Rattle.step_relation.specs.Given.{Given}
use Rattle.step_relation.specs.Runs.{Judges}
use Rattle.step_relation.specs.Turns.{WearsOut}
use Rattle.step_relation.specs.Could.{IsPossible}
use Rattle.step_relation.specs.Opening.{Opening}
use Rattle.step_relation.specs.Sound.{Sound}
use Rattle.bound_laws.specs.Bound.{IsTurnOf, IsWork}
use Rattle.bound_laws.specs.Full.{IsFullWork}
use Rattle.bound_laws.specs.Polls.{AreFew}

-- so many turns lead from the first state, its history and its cloud to the last ones; no cloud has more than 64 polls
-- left for a token
pub data Turned (first : StateData) (told : List Entry) (opened : Cloud)
    : ℕ → StateData → List Entry → Cloud → Type 0 where
  begins : (turns : ℕ) (last : StateData) (all : List Entry) (cloud : Cloud)
      → turns ≡ zero → last ≡ first → all ≡ told → cloud ≡ opened → AreFew opened
      → Turned first told opened turns last all cloud
  goes_on : (turns count : ℕ) (mid last : StateData) (so_far all : List Entry) (old new : Cloud)
      → Turned first told opened count mid so_far old
      → (judges : Judges) (e : ℕ) (given : Given) (cs : List Change) (es : List Entry)
      → IsTurnOf judges mid e given cs es old new → ¬ WearsOut mid e given → AreFew new
      → turns ≡ suc count → last ≡ applied cs mid → all ≡ so_far ++ es → Turned first told opened turns last all new

-- from a sound state, where the answers are ones that a provider gives
abbrev pub TurnsAreFew : Type 0
TurnsAreFew = (o : Opening) (h all : List Entry) (s t : StateData) (old new : Cloud) (n m turns : ℕ)
    → Sound o h s → IsFullWork s n → Turned s h old turns t all new → IsPossible o all → IsWork new.left t m
    → turns + m ≤ n
