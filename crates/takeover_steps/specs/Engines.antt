-- Which engines are live, and what changes them.
use Rattle.std.specs.Prelude.{Contains, List, [], length, ℕ, ◌+◌, ◌<◌, ◌^◌, ◌∷◌, ◌≡◌, ◌≤◌}
use Rattle.heat_plan.specs.declared.refusal.Refusal.{Refusal}
use Rattle.heat_plan.specs.declared.refusal.Refusal.TheVariants.{Worn}
use Rattle.core_state.specs.State.{StateData}
use Rattle.core_state.specs.declared.change.Change.{Change}
use Rattle.core_state.specs.declared.change.Change.TheVariants.{Enlist, Stop}
use Rattle.core_state.specs.declared.entry.Actor.TheVariants.{Main}
use Rattle.core_state.specs.declared.entry.Entry.{Entry}
use Rattle.step_relation.specs.Steps.{engine_limit, past_engines, restart_changes}
use Rattle.step_relation.specs.Writes.{entry_of}
use Rattle.core_state.specs.declared.change.Change.TheVariants as change_to
use Rattle.core_state.specs.declared.entry.EngineChange.TheVariants as engine
use Rattle.core_state.specs.declared.entry.What.TheVariants as what

-- the engine was live, and is stopped
pub record Stops (s : StateData) (e : ℕ) (cs : List Change) (es : List Entry) : Type 0 where
  pub live : Contains s.live e
  pub changes : cs ≡ Stop e ∷ []
  pub entries : es ≡ entry_of Main (what.Engine (engine.Stop e)) ∷ []

-- fewer engines were live than may be, and the next one is live too
pub record Enlists (s : StateData) (cs : List Change) (es : List Entry) : Type 0 where
  pub few : length s.live < engine_limit
  pub below : s.next.engine < 2 ^ 62
  pub changes : cs ≡ change_to.Numbers (past_engines s.next 1) ∷ Enlist s.next.engine ∷ []
  pub entries : es ≡ entry_of Main (what.Engine (engine.Start s.next.engine)) ∷ []

-- all that were live are stopped, and so many new ones are live
pub record Restarts (s : StateData) (count : ℕ) (cs : List Change) (es : List Entry) : Type 0 where
  pub some : 1 ≤ count
  pub few : count ≤ engine_limit
  pub below : s.next.engine + count ≤ 2 ^ 62
  pub changes : cs ≡ restart_changes s count
  pub entries : es ≡ entry_of Main (what.Engine (engine.Restart s.next.engine count)) ∷ []

-- a number of the new engines would be 2^62
pub data RefusesRestart (s : StateData) (count : ℕ) : Refusal → Type 0 where
  worn : 2 ^ 62 < s.next.engine + count → RefusesRestart s count Worn
