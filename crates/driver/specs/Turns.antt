-- Turns one after another, round the live engines, and how they end.
use Rattle.std.specs.Prelude.{List, [], length, ℕ, ◌++◌, ◌<◌, ◌∷◌, ◌≡◌, ◌≤◌, ◌⊎◌}
use Rattle.heat_plan.specs.declared.calls.Answered.{Answered}
use Rattle.heat_plan.specs.declared.calls.Request.{Request}
use Rattle.heat_plan.specs.declared.token.Token.{Token}
use Rattle.core_state.specs.Changes.{applied}
use Rattle.core_state.specs.State.{StateData}
use Rattle.core_state.specs.declared.change.Change.{Change}
use Rattle.core_state.specs.declared.entry.Actor.TheVariants.{Engine}
use Rattle.core_state.specs.declared.entry.Entry.{Entry}
use Rattle.core_state.specs.declared.entry.What.TheVariants as what
use Rattle.step_relation.specs.Given.{Given}
use Rattle.step_relation.specs.Runs.{IsTied}
use Rattle.step_relation.specs.Steps.{Step}
use Rattle.step_relation.specs.Turns.{Turn, WearsOut}
use Rattle.book.specs.Kept.{unjudged}
use Rattle.book.specs.Quiet.{IsIdle, Page}
use Rattle.book.specs.Turned.{IsWornBy, WhyAlone}
use Rattle.book.specs.declared.turning.Turn.{Turn as Turn_answer}
use Rattle.book.specs.declared.turning.Turn.TheVariants as turn
use Rattle.driver.specs.Rounds.{IsNext}
use Rattle.driver.specs.declared.ran.Ran.{Ran}
use Rattle.driver.specs.declared.ran.Ran.TheVariants as ran

-- one turn of the engine e, given what its item resolves to
pub record TurnOf (s : StateData) (e : ℕ) (cs : List Change) (es : List Entry) : Type 0 where
  pub given : Given
  pub made : Turn s e given cs es
  pub lasts : ¬ WearsOut s e given
  pub tied : IsTied unjudged s e given

-- the last of those that turned, 0 where none did
abbrev pub latest : List ℕ → ℕ
latest [] = 0
latest (e ∷ []) = e
latest (e ∷ f ∷ es) = latest (f ∷ es)

-- the turns of these engines, in this order, with their entries: each of the next that has something to do
pub data Turns (first : StateData) : StateData → List Entry → List ℕ → Type 0 where
  begins : (last : StateData) (all : List Entry) (by : List ℕ) → last ≡ first → all ≡ [] → by ≡ []
      → Turns first last all by
  adds : (mid last : StateData) (before after all : List Entry) (cs : List Change) (so_far by : List ℕ) (e : ℕ)
      → Turns first mid before so_far → IsNext mid (latest so_far) e → TurnOf mid e cs after
      → last ≡ applied cs mid → all ≡ before ++ after → by ≡ so_far ++ e ∷ [] → Turns first last all by

-- the engine made this call, and was given this answer
abbrev pub called : ℕ → Token → Request → Answered → Entry
called e token request given = record { by = Engine e; what = what.Call token request given }

-- A turn that found no memory, or that the keeper failed to keep: nothing was done, or the call alone was told whose
-- step wasn't made.
pub data Lacks (e : ℕ) (old new : StateData) (es : List Entry) (why : Turn_answer) : Type 0 where
  unmade : (why ≡ turn.Memory) ⊎ (why ≡ turn.DiskFault) → new ≡ old → es ≡ [] → Lacks e old new es why
  alone : (token : Token) (request : Request) (given : Answered) → WhyAlone why given
      → Step old [] (called e token request given ∷ []) → new ≡ old → es ≡ called e token request given ∷ []
      → Lacks e old new es why

-- Turns until the book was idle, at most n. Each answer comes exactly so.
pub data RanTo (n : ℕ) (old new : StateData) (es : List Entry) (result : Ran) : Type 0 where
  idle : (by : List ℕ) → length by ≤ n → Turns old new es by → IsIdle new → result ≡ ran.Idle (length by)
      → RanTo n old new es result
  tired : (by : List ℕ) → length by ≡ n → Turns old new es by → ¬ IsIdle new → result ≡ ran.Tired n
      → RanTo n old new es result
  worn : (by : List ℕ) (e : ℕ) → length by < n → Turns old new es by → IsNext new (latest by) e → IsWornBy new e
      → result ≡ ran.Worn → RanTo n old new es result
  memory : (by : List ℕ) (e : ℕ) (mid : StateData) (before after : List Entry) → length by < n → Turns old mid before by
      → IsNext mid (latest by) e → Lacks e mid new after turn.Memory → es ≡ before ++ after → result ≡ ran.Memory
      → RanTo n old new es result
  fault : (by : List ℕ) (e : ℕ) (mid : StateData) (before after : List Entry) → length by < n → Turns old mid before by
      → IsNext mid (latest by) e → Lacks e mid new after turn.DiskFault → es ≡ before ++ after
      → result ≡ ran.DiskFault → RanTo n old new es result

-- the entries that were added, and how the run ended
pub record HasRan (n : ℕ) (old new : Page) (result : Ran) : Type 0 where
  pub added : List Entry
  pub entries : new.entries ≡ old.entries ++ added
  pub ended : RanTo n old.state new.state added result
