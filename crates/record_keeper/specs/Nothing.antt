-- A keeper that keeps nothing.
use Rattle.std.specs.Prelude.{IsTrue, false, true, ◌≡◌}
use Rattle.std.proofs.Common.{sym, ◌∙◌}
use Rattle.core_state.specs.State.{StateData}
use Rattle.step_relation.specs.Opening.{bare}
use Rattle.record_keeper.specs.Laws.{IsLawful}
use Rattle.record_keeper.specs.Shown.{ShownKeeper}

-- it stands for no state that is known, and tells nothing of crashes
abbrev pub nothing_kept : ShownKeeper
nothing_kept = record {
  tells = false;
  recalls = true;
  going = true;
  is_long = false;
  is_old = false;
  can_compact = false;
  stands = λ s. ⊥;
  may_leave = λ l. ⊥;
  moment = 0;
  left_since = λ t l. ⊥;
}

-- it opens with the empty state alone
abbrev pub opens_empty : StateData → Type 0
opens_empty s = s ≡ bare

untold : IsTrue false → ⊥
untold h = cc

pub nothing_kept-lawful : IsLawful opens_empty nothing_kept
nothing_kept-lawful = record {
  one = λ s t stands. absurd stands;
  open_ = λ s stands. absurd stands;
  shortens = λ long. long;
  recalls = λ tells. absurd (untold tells);
  recalled = λ it. record { one = λ s t is its. is ∙ sym its; stood = λ s stands. absurd stands };
  told = λ tells. absurd (untold tells);
}
