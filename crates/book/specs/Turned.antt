-- What one turn makes of the state, the history and the cloud, by what it answers.
use Rattle.std.specs.Prelude.{List, [], ℕ, ◌∷◌, ◌≡◌, ◌≢◌}
use Rattle.heat_plan.specs.declared.calls.Answered.{Answered}
use Rattle.heat_plan.specs.declared.calls.Request.{Request}
use Rattle.mail_table.specs.declared.mail.Stage.{Stage}
use Rattle.core_state.specs.State.{StateData}
use Rattle.core_state.specs.declared.change.Change.{Change}
use Rattle.core_state.specs.declared.entry.Entry.{Entry}
use Rattle.step_relation.specs.Asks.{Calls}
use Rattle.step_relation.specs.Given.{Answer, Given}
use Rattle.step_relation.specs.Nexts.{IsIdle, IsLost}
use Rattle.step_relation.specs.Rows.{token_of}
use Rattle.step_relation.specs.Runs.{IsTied}
use Rattle.step_relation.specs.Turns.{Turn, WearsOut}
use Rattle.step_relation.specs.Writes.{call_entry}
use Rattle.takeover_steps.specs.Lost.{IsOfUnknownSize}
use Rattle.next_laws.specs.Found.{IsAskedAt}
use Rattle.book.specs.Kept.{unjudged}
use Rattle.book.specs.Scenes.{IsUnmade, Makes, Scene, Told}
use Rattle.book.specs.declared.turning.Turn.TheVariants as turned
use Rattle.book.specs.declared.turning.Turn.{Turn as Turn_answer}

-- nobody answered it
abbrev pub IsQuiet : Given → Type 0
IsQuiet given = (a : Answered) → given ≢ Answer a

-- what the engine's job asks of the cloud, for its row
pub record Requests (s : StateData) (e : ℕ) : Type 0 where
  pub stage : Stage
  pub calls : Calls s e stage
  pub asked : Request
  pub asks : IsAskedAt calls.row stage asked

-- the turn would raise a number or a key too far, under some answer
pub record IsWornBy (s : StateData) (e : ℕ) : Type 0 where
  pub given : Given
  pub tied : IsTied unjudged s e given
  pub wears : WearsOut s e given

-- why a call is told alone: what was answered is of unknown size, and there was no memory to store it; or the keeper
-- failed to keep the step
pub data WhyAlone (result : Turn_answer) (given : Answered) : Type 0 where
  lacking : result ≡ turned.Memory → IsOfUnknownSize given → WhyAlone result given
  failed : result ≡ turned.DiskFault → WhyAlone result given

-- one turn of the engine e
pub data Turned (e : ℕ) (old new : Scene) (result : Turn_answer) : Type 0 where
  -- a step that asks nobody
  quiet : (given : Given) (cs : List Change) (es : List Entry) → result ≡ turned.Stepped → IsQuiet given
      → Turn old.state e given cs es → ¬ WearsOut old.state e given → IsTied unjudged old.state e given
      → Makes cs es old new → new.cloud ≡ old.cloud → Turned e old new result
  -- one request, and the step of its answer
  called : (k : Requests old.state e) (given : Answered) (cs : List Change) (es rest : List Entry)
      → result ≡ turned.Stepped
      → Turn old.state e (Answer given) cs es → ¬ WearsOut old.state e (Answer given)
      → es ≡ call_entry e k.calls.row k.asked given ∷ rest
      → Makes cs es old new → Told (token_of k.calls.row) k.asked given old.cloud new.cloud → Turned e old new result
  -- what the answer would have stored found no memory, or wasn't kept: the call alone is told
  alone : (k : Requests old.state e) (given : Answered) (cs : List Change) (es rest : List Entry)
      → WhyAlone result given → cs ≢ []
      → Turn old.state e (Answer given) cs es → ¬ WearsOut old.state e (Answer given)
      → es ≡ call_entry e k.calls.row k.asked given ∷ rest
      → Makes [] (call_entry e k.calls.row k.asked given ∷ []) old new
      → Told (token_of k.calls.row) k.asked given old.cloud new.cloud → Turned e old new result
  -- a step that asks nobody wasn't kept
  unkept : (given : Given) (cs : List Change) (es : List Entry) → result ≡ turned.DiskFault → IsQuiet given → cs ≢ []
      → Turn old.state e given cs es → ¬ WearsOut old.state e given → IsTied unjudged old.state e given
      → IsUnmade old new → Turned e old new result
  unmade : result ≡ turned.Memory → IsUnmade old new → Turned e old new result
  idle : result ≡ turned.Idle → IsIdle old.state e → IsUnmade old new → Turned e old new result
  lost : result ≡ turned.Lost → IsLost old.state e → IsUnmade old new → Turned e old new result
  worn : result ≡ turned.Worn → IsWornBy old.state e → IsUnmade old new → Turned e old new result
