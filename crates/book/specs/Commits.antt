-- What the commit of an older look makes of the state, the history and the cloud.
use Rattle.std.specs.Prelude.{ℕ, ◌≡◌}
use Rattle.core_state.specs.State.{StateData}
use Rattle.check_steps.specs.Looks.{HasNext, IsBegin, IsOther, IsWork}
use Rattle.check_steps.specs.Prepares.{IsBeginPrepared}
use Rattle.check_steps.specs.declared.looks.BeginWork.{BeginWork}
use Rattle.check_steps.specs.declared.looks.Work.{Work}
use Rattle.check_steps.specs.declared.prepared.Prepared.{Prepared}
use Rattle.book.specs.Scenes.{IsUnmade, Scene}
use Rattle.book.specs.Turned.{Turned}
use Rattle.book.specs.declared.turning.Turn.TheVariants as turned
use Rattle.book.specs.declared.turning.Turn.{Turn as Turn_answer}

-- the engine's next step, if it has one, is the begin for which this was prepared
pub record MayBegin (s : StateData) (e : ℕ) (it : Prepared) : Type 0 where
  pub work : BeginWork
  pub still : HasNext s e → IsBegin s e work
  pub given : IsBeginPrepared work it

-- the commit of a step of the engine e that was looked at
pub data Commits (e : ℕ) (w : Work) (old new : Scene) (result : Turn_answer) : Type 0 where
  -- the fence: another step is next by now, and nothing changes
  fenced : result ≡ turned.Stepped → IsOther old.state e w → IsUnmade old new → Commits e w old new result
  -- a turn; if the engine has a next step, it is the one that was looked at
  made : (HasNext old.state e → IsWork old.state e w) → Turned e old new result → Commits e w old new result
  -- want of memory, as of a halted book: nothing changes
  unmade : result ≡ turned.Memory → IsUnmade old new → Commits e w old new result
