-- Calls one after another, and what a crash inside them may leave.
use Rattle.std.proofs.Common.{arith, inl, inr}
use Rattle.std.specs.Prelude.{Option}
use Rattle.core_state.specs.State.{StateData}
use Rattle.record_keeper.specs.Laws.{IsTold}
use Rattle.record_keeper.specs.Shown.{Left, LeavesOnly, SameKeeper, ShownKeeper}

-- where nothing changed, a crash leaves what it might have left before
pub LeavesOnly-same : (may_open : StateData → Type 0) (old new : ShownKeeper) (P : Option Left → Type 0)
    → IsTold may_open old → SameKeeper old new → ((l : Option Left) → old.may_leave l → P l) → LeavesOnly old new P
LeavesOnly-same may_open old new P told same each = record {
  later = rw same.moment (omega arith);
  each = λ l since. each l (told.only_now l ((same.since old.moment l).0 since));
  before = λ t l earlier since. inl ((same.since t l).0 since);
}

-- one call behind another
pub LeavesOnly-then : (old mid new : ShownKeeper) (P : Option Left → Type 0) → LeavesOnly old mid P
    → LeavesOnly mid new P → LeavesOnly old new P
LeavesOnly-then old mid new P first second = record {
  later = omega (arith, first.later, second.later);
  each = λ l since. elim (second.before old.moment l first.later since)
      [ inl before ↦ first.each l before | inr left ↦ left ];
  before = λ t l earlier since. elim (second.before t l (omega (arith, first.later)) since)
      [ inl before ↦ first.before t l earlier before | inr left ↦ inr left ];
}

-- of more than is asked
pub LeavesOnly-weaker : (old new : ShownKeeper) (P Q : Option Left → Type 0) → ((l : Option Left) → P l → Q l)
    → LeavesOnly old new P → LeavesOnly old new Q
LeavesOnly-weaker old new P Q weaker leaves = record {
  later = leaves.later;
  each = λ l since. weaker l (leaves.each l since);
  before = λ t l earlier since. elim (leaves.before t l earlier since)
      [ inl before ↦ inl before | inr left ↦ inr (weaker l left) ];
}
