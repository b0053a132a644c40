-- The state and the history at one moment, and what is made of them.
use Rattle.std.specs.Option.{option_map_or}
use Rattle.std.specs.Prelude.{List, [], min, ℕ, ◌++◌, ◌-◌, ◌^◌, ◌≡◌}
use Rattle.core_state.specs.Changes.{applied}
use Rattle.core_state.specs.State.{StateData, stack_at}
use Rattle.core_state.specs.declared.stack.Stack.{Stack}
use Rattle.core_state.specs.declared.change.Change.{Change}
use Rattle.core_state.specs.declared.entry.Entry.{Entry}

-- no letter waits, and there is no job
pub record IsIdle (s : StateData) : Type 0 where
  pub letters : s.letters ≡ []
  pub jobs : s.jobs ≡ []

-- the state and the history at one moment
pub record Page : Type 0 where
  pub state : StateData
  pub entries : List Entry

abbrev pub page : StateData → List Entry → Page
page state entries = record { state = state; entries = entries }

-- the changes are made, and the entries told
pub record Writes (cs : List Change) (es : List Entry) (old new : Page) : Type 0 where
  pub state : new.state ≡ applied cs old.state
  pub entries : new.entries ≡ old.entries ++ es

-- the number of the stack of this name, or the next one to be drawn, or the last that there is
abbrev pub number_of : StateData → List ℕ → ℕ
number_of s name = option_map_or (λ (st : Stack). st.no) (stack_at s.stacks name) (min s.next.stack (2 ^ 62 - 1))
