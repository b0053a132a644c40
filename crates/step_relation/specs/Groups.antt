-- What each group of laws says: of the moves of an engine, of the commands, and of the other steps.
use Rattle.std.specs.Prelude.{Bool, Contains, List, None, Option, Some, [], ℕ, ◌++◌, ◌∷◌, ◌≡◌, ◌≢◌, ◌≤◌, ◌⊎◌}
use Rattle.heat_plan.specs.Plans.{IsPlan, PlanData}
use Rattle.heat_plan.specs.declared.calls.Answered.{Answered}
use Rattle.heat_plan.specs.declared.item.Item.{Item}
use Rattle.heat_plan.specs.declared.phase.Act.TheVariants.{Delete}
use Rattle.core_state.specs.Changes.{applied}
use Rattle.core_state.specs.State.{StateData, stack_at}
use Rattle.core_state.specs.declared.change.Change.{Change}
use Rattle.core_state.specs.declared.change.Change.TheVariants.{Enlist, Stop}
use Rattle.core_state.specs.declared.entry.Actor.{Actor}
use Rattle.core_state.specs.declared.entry.Actor.TheVariants.{Main}
use Rattle.core_state.specs.declared.entry.EngineChange.{EngineChange}
use Rattle.core_state.specs.declared.entry.Entry.{Entry}
use Rattle.core_state.specs.declared.entry.What.{What}
use Rattle.core_state.specs.declared.stack.Stack.{Stack}
use Rattle.heat_plan.specs.declared.phase.Status.TheVariants.{Complete}
use Rattle.step_relation.specs.Commands.{Lays, Sets, laid_changes, laid_entries}
use Rattle.step_relation.specs.Given.{Answer, Given}
use Rattle.step_relation.specs.Moves.{Move}
use Rattle.step_relation.specs.Orders.{IsForward, create_sets, delete_sets, plan_back, rollback_sets, update_sets}
use Rattle.step_relation.specs.Runs.{IsTied, Judges}
use Rattle.step_relation.specs.Steps.{BeginsWithCall, IsNote, past_engines, restart_changes}
use Rattle.step_relation.specs.Writes.{entry_of}
use Rattle.step_relation.specs.Could.{IsPossible}
use Rattle.step_relation.specs.Opening.{Opening}
use Rattle.step_relation.specs.Sound.{Sound, Standing}
use Rattle.core_state.specs.declared.change.Change.TheVariants as change_to
use Rattle.core_state.specs.declared.entry.What.TheVariants as what

-- a command that may be laid out: a create of a name without a stack, or another on a stack that stands
pub data IsOrdered (s : StateData) : List ℕ → List Item → Sets → Type 0 where
  creates : (name : List ℕ) (plan : PlanData) (rollback : Bool) → stack_at s.stacks name ≡ None
      → IsPlan plan.items plan.absent → IsOrdered s name plan.items (create_sets s name plan rollback)
  updates : (st : Stack) (plan : PlanData) (rollback : Bool) → stack_at s.stacks st.name ≡ Some st → st.act ≢ Delete
      → IsPlan plan.items plan.absent → IsOrdered s st.name plan.items (update_sets s st plan rollback)
  deletes : (st : Stack) → stack_at s.stacks st.name ≡ Some st → IsOrdered s st.name [] (delete_sets s st)
  rolls_back : (st : Stack) (actor : Actor) → stack_at s.stacks st.name ≡ Some st → IsForward st.act
      → st.status ≢ Complete
      → IsOrdered s st.name (plan_back s st).items (rollback_sets s st actor)

-- each move from a standing state leaves it so
abbrev pub KeptByMoves : (StateData → Type 0) → Type 0
KeptByMoves P = (judges : Judges) (s : StateData) (e : ℕ) (given : Given) (failed : Option Stack) (cs : List Change)
    (es : List Entry)
    → Standing s → Move s e given failed cs es → IsTied judges s e given → P (applied cs s)

-- each command does
abbrev pub KeptByCommands : (StateData → Type 0) → Type 0
KeptByCommands P = (s : StateData) (name : List ℕ) (items : List Item) (it : Sets) (k : Lays s name items)
    → Standing s → IsOrdered s name items it → P (applied (laid_changes s name items it k) s)

-- the stop of an engine, the enlisting of one, and a restart do
pub record KeptByEngines (P : StateData → Type 0) : Type 0 where
  pub stop : (s : StateData) (e : ℕ) → Standing s → Contains s.live e → P (applied (Stop e ∷ []) s)
  pub enlist : (s : StateData) → Standing s
      → P (applied (change_to.Numbers (past_engines s.next 1) ∷ Enlist s.next.engine ∷ []) s)
  pub restart : (s : StateData) (count : ℕ) → Standing s → P (applied (restart_changes s count) s)

-- the same of a state with its history
abbrev pub ToldByMoves : (Opening → List Entry → StateData → Type 0) → Type 0
ToldByMoves P = (judges : Judges) (o : Opening) (h : List Entry) (s : StateData) (e : ℕ) (given : Given)
    (failed : Option Stack)
    (cs : List Change) (es : List Entry) → Sound o h s → Move s e given failed cs es → IsTied judges s e given
    → IsPossible o (h ++ es) → P o (h ++ es) (applied cs s)

-- and each command
abbrev pub ToldByCommands : (Opening → List Entry → StateData → Type 0) → Type 0
ToldByCommands P = (o : Opening) (h : List Entry) (s : StateData) (name : List ℕ) (items : List Item) (it : Sets)
    (k : Lays s name items)
    → Sound o h s → IsOrdered s name items it
    → P o (h ++ laid_entries s name items it k) (applied (laid_changes s name items it k) s)

-- an entry that only notes something: no command, call, release, mark, row or letter
abbrev pub IsQuietEntry : What → Type 0
IsQuietEntry it = (IsNote it) ⊎ ((it ≡ what.Closed) ⊎ ((change : EngineChange) × (it ≡ what.Engine change)))

-- only the live engines and the next engine's number may be others
pub record IsQuietTo (s t : StateData) : Type 0 where
  pub live : List ℕ
  pub engine : ℕ
  pub rises : s.next.engine ≤ engine
  pub is : t ≡ record s { live = live; next = record s.next { engine = engine } }

-- the call of a move alone, behind which nothing was stored
pub record ToldByOthers (P : Opening → List Entry → StateData → Type 0) : Type 0 where
  pub unstored : (o : Opening) (h : List Entry) (s : StateData) (e : ℕ) (given : Answered) (failed : Option Stack)
      (cs : List Change)
      (es : List Entry) (call : Entry) → Sound o h s → Move s e (Answer given) failed cs es → BeginsWithCall es call
      → IsPossible o (h ++ call ∷ []) → P o (h ++ call ∷ []) s
  pub quiet : (o : Opening) (h : List Entry) (s t : StateData) (it : What) → Sound o h s → IsQuietEntry it
      → IsQuietTo s t
      → P o (h ++ entry_of Main it ∷ []) t
