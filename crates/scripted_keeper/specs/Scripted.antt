-- What a scripted keeper shows.
use Rattle.std.specs.Prelude.{IsTrue, false, refl, true}
use Rattle.core_state.specs.State.{StateData}
use Rattle.record_keeper.specs.Laws.{IsLawful}
use Rattle.record_keeper.specs.Shown.{ShownKeeper}
use Rattle.scripted_keeper.specs.declared.scripted_keeper.ScriptedKeeper.{ScriptedKeeper}

-- it tells nothing, and stands for no state that is known
abbrev pub shown_by : ScriptedKeeper → ShownKeeper
shown_by k = record {
  tells = false;
  recalls = false;
  going = k.going;
  is_long = k.long;
  is_old = k.aged;
  can_compact = true;
  stands = λ s. ⊥;
  may_leave = λ l. ⊥;
  moment = 0;
  left_since = λ t l. ⊥;
}

-- it may be opened with any state, for all that it tells
abbrev pub may_be : StateData → Type 0
may_be s = Unit {0}

untold : ¬ IsTrue false
untold h = cc

done : IsTrue true
done = refl

pub shown_by-lawful : (k : ScriptedKeeper) → IsLawful may_be (shown_by k)
shown_by-lawful k = record {
  one = λ s t stands. absurd stands;
  open_ = λ s stands. absurd stands;
  shortens = λ long. done;
  recalls = λ tells. absurd (untold tells);
  recalled = λ recalls. absurd (untold recalls);
  told = λ tells. absurd (untold tells);
}
