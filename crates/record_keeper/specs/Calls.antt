-- What each call of a keeper makes of what it shows.
use Rattle.std.specs.Prelude.{Bool, IsTrue, List, None, Option, Some, false, ℕ, ◌↔◌, ◌≡◌, ◌≤◌}
use Rattle.core_state.specs.Changes.{applied}
use Rattle.core_state.specs.State.{StateData}
use Rattle.core_state.specs.declared.change.Change.{Change}
use Rattle.step_relation.specs.Images.{IsInRange, IsMade, IsRead, IsTied}
use Rattle.record_keeper.specs.Shown.{Left, ShownKeeper, StandsFor, at_rest}

-- it lacks what an image of a book has
abbrev pub IsUnfit : StateData → Type 0
IsUnfit s = IsRead s → ¬ IsTied s

-- whatever it may be opened with is no image of a book
abbrev pub IsForeign : (StateData → Type 0) → Type 0
IsForeign may_open = (s : StateData) → may_open s → IsUnfit s

-- the state that was opened, and the keeper that goes on from it
pub record HasOpened (may_open : StateData → Type 0) (new : ShownKeeper) (s : StateData) : Type 0 where
  pub may : may_open s
  pub read : IsRead s
  pub tied : IsTied s
  pub range : IsInRange s
  pub made : IsMade s
  pub stands : StandsFor new s

-- What a crash inside an opening leaves came of this: the same; the state that was read, at rest; or the one behind
-- it, at rest. Of what stands for no state anything may come.
pub data StemsFrom (old new : Option Left) : Type 0 where
  unknown : old ≡ None → StemsFrom old new
  same : new ≡ old → StemsFrom old new
  settles : (l : Left) → old ≡ Some l → new ≡ Some (at_rest l.reads) → StemsFrom old new
  turns : (l : Left) (s : StateData) → old ≡ Some l → l.next ≡ Some s → new ≡ Some (at_rest s) → StemsFrom old new

-- it came of what a crash before might have left
pub record ComesOf (old : ShownKeeper) (l : Option Left) : Type 0 where
  pub from : Option Left
  pub left : old.may_leave from
  pub stems : StemsFrom from l

-- the changes are kept behind the state for which it stood
pub record HasAppended (cs : List Change) (old new : ShownKeeper) : Type 0 where
  pub stands : (s : StateData) → StandsFor old s → StandsFor new (applied cs s)
  pub young : new.is_old ≡ false

-- What a crash inside an append leaves, from the state s to the state t: the one or the other, or the first with the
-- second still to come.
pub data IsLeftOf (s t : StateData) (l : Option Left) : Type 0 where
  before : l ≡ Some (at_rest s) → IsLeftOf s t l
  pending : l ≡ Some (record { reads = s; next = Some t }) → IsLeftOf s t l
  behind : l ≡ Some (at_rest t) → IsLeftOf s t l

-- whether this state is read again, as it tells; where it goes on from this state, it is
pub record IsReread (may_open : StateData → Type 0) (keeper : ShownKeeper) (s : StateData) (answer : Bool) : Type 0 where
  pub told : IsTrue keeper.tells → (IsTrue answer ↔ may_open s)
  pub stood : StandsFor keeper s → IsTrue answer

-- it goes on as before, and is neither longer nor older
pub record StaysAsItIs (old new : ShownKeeper) : Type 0 where
  pub stands : (s : StateData) → StandsFor old s → StandsFor new s
  pub is_long : new.is_long ≡ old.is_long
  pub is_old : new.is_old ≡ old.is_old
  pub can_compact : new.can_compact ≡ old.can_compact

-- it stands for the same state, and is neither long nor old any more
pub record HasCompacted (s : StateData) (new : ShownKeeper) : Type 0 where
  pub stands : StandsFor new s
  pub short : new.is_long ≡ false
  pub young : new.is_old ≡ false

-- it tells as much as before, and its count of faults hasn't fallen
pub record GoesOn (old new : ShownKeeper) (before now : ℕ) : Type 0 where
  pub tells : new.tells ≡ old.tells
  pub recalls : new.recalls ≡ old.recalls
  pub later : before ≤ now
