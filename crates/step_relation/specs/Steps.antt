-- One step of the engine, of any sort.
use Rattle.std.specs.Prelude.{Contains, List, [], length, map, suc, zero, ℕ, ◌++◌, ◌+◌, ◌<◌, ◌^◌, ◌∷◌, ◌≡◌, ◌≢◌, ◌≤◌}
use Rattle.heat_plan.specs.declared.calls.Answered.{Answered}
use Rattle.heat_plan.specs.declared.calls.Request.{Request}
use Rattle.heat_plan.specs.declared.token.Token.{Token}
use Rattle.core_state.specs.State.{StateData}
use Rattle.core_state.specs.declared.change.Change.{Change}
use Rattle.core_state.specs.declared.change.Change.TheVariants.{Enlist, Stop}
use Rattle.core_state.specs.declared.entry.Actor.TheVariants.{Main}
use Rattle.core_state.specs.declared.entry.Entry.{Entry}
use Rattle.core_state.specs.declared.entry.What.{What}
use Rattle.core_state.specs.declared.numbers.Numbers.{Numbers}
use Rattle.step_relation.specs.Given.{Answer, Given}
use Rattle.step_relation.specs.Orders.{Command}
use Rattle.step_relation.specs.Turns.{IsWorn, Turn, WearsOut}
use Rattle.step_relation.specs.Writes.{entry_of}
use Rattle.core_state.specs.declared.change.Change.TheVariants as change_to
use Rattle.core_state.specs.declared.entry.EngineChange.TheVariants as engine
use Rattle.core_state.specs.declared.entry.What.TheVariants as what

-- what a line of the script notes: what it shows or foretells, a refusal, or how its run ended
pub data IsNote : What → Type 0 where
  shows : (it : _) (stack : List ℕ) → IsNote (what.Show it stack)
  notes : (line : ℕ) (code : List ℕ) (path : _) → IsNote (what.Note line code path)
  ran : (idle : _) (turns : ℕ) → IsNote (what.Ran idle turns)
  turned : (e : ℕ) (lost : _) → IsNote (what.Turned e lost)
  previews : (stack : List ℕ) (forecast : _) → IsNote (what.Preview stack forecast)

-- how many engines may be live
abbrev pub engine_limit : ℕ
engine_limit = 64

-- the numbers of so many engines, from one on
abbrev pub engines_from : ℕ → ℕ → List ℕ
engines_from first zero = []
engines_from first (suc count) = first ∷ engines_from (first + 1) count

-- the next numbers behind so many engines
abbrev pub past_engines : Numbers → ℕ → Numbers
past_engines next count = record next { engine = next.engine + count }

-- all live engines stop, and so many new ones are enlisted
abbrev pub restart_changes : StateData → ℕ → List Change
restart_changes s count =
    change_to.Numbers (past_engines s.next count) ∷ (map Stop s.live ++ map Enlist (engines_from s.next.engine count))

-- a call stands first among these entries
pub record BeginsWithCall (es : List Entry) (call : Entry) : Type 0 where
  pub rest : List Entry
  pub entries : es ≡ call ∷ rest
  pub is_call : (token : Token) × (request : Request) × (given : Answered) × (call.what ≡ what.Call token request given)

-- a step's changes and entries
pub data Step (s : StateData) (cs : List Change) (es : List Entry) : Type 0 where
  command : Command s cs es → ¬ IsWorn cs → Step s cs es
  turn : (e : ℕ) (given : Given) → Turn s e given cs es → ¬ WearsOut s e given → Step s cs es
  -- what the turn would have stored found no memory, or couldn't be appended: its call alone is told
  unstored : (e : ℕ) (given : Answered) (lost : List Change) (all : List Entry) (call : Entry)
      → Turn s e (Answer given) lost all → lost ≢ [] → ¬ WearsOut s e (Answer given) → BeginsWithCall all call
      → cs ≡ [] → es ≡ call ∷ [] → Step s cs es
  stop : (e : ℕ) → Contains s.live e → cs ≡ Stop e ∷ [] → es ≡ entry_of Main (what.Engine (engine.Stop e)) ∷ []
      → Step s cs es
  enlist : length s.live < engine_limit → s.next.engine < 2 ^ 62
      → cs ≡ change_to.Numbers (past_engines s.next 1) ∷ Enlist s.next.engine ∷ []
      → es ≡ entry_of Main (what.Engine (engine.Start s.next.engine)) ∷ [] → Step s cs es
  restart : (count : ℕ) → 1 ≤ count → count ≤ engine_limit → s.next.engine + count ≤ 2 ^ 62
      → cs ≡ restart_changes s count
      → es ≡ entry_of Main (what.Engine (engine.Restart s.next.engine count)) ∷ [] → Step s cs es
  note : (it : What) → IsNote it → cs ≡ [] → es ≡ entry_of Main it ∷ [] → Step s cs es
  close : cs ≡ [] → es ≡ entry_of Main what.Closed ∷ [] → Step s cs es
