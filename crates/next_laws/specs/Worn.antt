-- When a turn is not worn out, whatever its request may be answered.
use Rattle.std.specs.Prelude.{List, ℕ, ◌≢◌}
use Rattle.heat_plan.specs.declared.calls.Answered.{Answered}
use Rattle.core_state.specs.State.{StateData}
use Rattle.core_state.specs.declared.change.Change.{Change}
use Rattle.core_state.specs.declared.entry.Entry.{Entry}
use Rattle.history_laws.specs.Given.{Answer, Given}
use Rattle.history_laws.specs.Turns.{IsWorn, Turn, WearsOut}
use Rattle.heat_plan.specs.declared.calls.Answered.TheVariants as answer

-- it is given no answer, and its own changes aren't worn
abbrev pub QuietIsNotWorn : Type 0
QuietIsNotWorn = (s : StateData) (e : ℕ) (given : Given) (cs : List Change) (es : List Entry)
    → ((a : Answered) → given ≢ Answer a) → Turn s e given cs es → ¬ IsWorn cs → ¬ WearsOut s e given

-- it is answered, and what a failure would change isn't worn: no other answer raises a key further or draws more
-- numbers
abbrev pub CallIsNotWorn : Type 0
CallIsNotWorn = (s : StateData) (e : ℕ) (cs : List Change) (es : List Entry)
    → Turn s e (Answer answer.Failed) cs es → ¬ IsWorn cs → (a : Answered) → ¬ WearsOut s e (Answer a)
