-- A scripted keeper that is going goes on from any state.
use Rattle.std.specs.Prelude.{IsTrue, false, true, ◌≡◌}
use Rattle.core_state.specs.State.{StateData}
use Rattle.record_keeper.specs.Shown.{StandsFor}
use Rattle.scripted_keeper.specs.Scripted.{shown_by}
use Rattle.scripted_keeper.specs.declared.scripted_keeper.ScriptedKeeper.{ScriptedKeeper}

untold : ¬ IsTrue false
untold h = cc

pub stands_for : (k : ScriptedKeeper) (s : StateData) → k.going ≡ true → StandsFor (shown_by k) s
stands_for k s going = record {
  going = going;
  told = λ tells. absurd (untold tells);
  only = λ t stands. absurd stands;
}
