-- A poll's answer that found no memory.
use Rattle.std.specs.Prelude.{List, [], ℕ, ◌∷◌, ◌≢◌}
use Rattle.heat_plan.specs.declared.calls.Answered.{Answered}
use Rattle.heat_plan.specs.declared.phase.Act.TheVariants.{Delete}
use Rattle.mail_table.specs.declared.mail.Stage.TheVariants.{Polling}
use Rattle.core_state.specs.State.{StateData}
use Rattle.core_state.specs.declared.change.Change.{Change}
use Rattle.core_state.specs.declared.entry.Entry.{Entry}
use Rattle.heat_plan.specs.declared.facts.Facts.{Facts}
use Rattle.step_relation.specs.Asks.{Calls}
use Rattle.step_relation.specs.Given.{Answer}
use Rattle.step_relation.specs.Steps.{Step}
use Rattle.step_relation.specs.Turns.{IsWorn, Turn}
use Rattle.step_relation.specs.Writes.{call_entry}
use Rattle.heat_plan.specs.declared.calls.Answered.TheVariants as answer
use Rattle.heat_plan.specs.declared.calls.Request.TheVariants as request

-- an answer whose size isn't known before it comes
pub data IsOfUnknownSize : Answered → Type 0 where
  ready : (facts : Facts) → IsOfUnknownSize (answer.Ready facts)
  broken : (code : List ℕ) → IsOfUnknownSize (answer.Broken code)

-- where the step of a failure was made and wears nothing out, such an answer that is told alone is a step
abbrev pub LostAnswerIsAStep : Type 0
LostAnswerIsAStep = (s : StateData) (e : ℕ) (k : Calls s e Polling) (given : Answered) → k.row.act ≢ Delete
    → IsOfUnknownSize given
    → (cs : List Change) (es : List Entry) → Turn s e (Answer answer.Failed) cs es → ¬ IsWorn cs
    → Step s [] (call_entry e k.row request.Poll given ∷ [])
