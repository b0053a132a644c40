-- What a keeper shows: the state that it stands for, and what a crash may leave of it.
use Rattle.std.specs.Prelude.{Bool, IsTrue, None, Option, ℕ, ◌↔◌, ◌≡◌, ◌≤◌, ◌⊎◌}
use Rattle.core_state.specs.State.{StateData}

-- What a crash left stands for: the state that is read, and the one that is read in its place once a gate behind its
-- last record, neither closed nor open, has come to count as open.
pub record Left : Type 0 where
  pub reads : StateData
  pub next : Option StateData

-- this state is read, and nothing behind it can come to count
abbrev pub at_rest : StateData → Left
at_rest s = record { reads = s; next = None }

pub record ShownKeeper : Type 1 where
  -- it tells what a crash may leave
  pub tells : Bool
  -- it tells what it reads as
  pub recalls : Bool
  -- it was opened, and no append and no compaction has failed since
  pub going : Bool
  -- a compaction would make it shorter by much
  pub is_long : Bool
  -- it has to be compacted before anything is appended
  pub is_old : Bool
  -- it may still be compacted
  pub can_compact : Bool
  -- the state that it stands for, where that is known
  pub stands : StateData → Type 0
  -- what a crash now may leave; none: no image, an end that isn't tidy, or a record behind it that gives no state
  pub may_leave : Option Left → Type 0
  -- the moment, as a number that never falls
  pub moment : ℕ
  -- what a crash at some moment from that one on might have left, inside a call or between two
  pub left_since : ℕ → Option Left → Type 0

-- It goes on from this state and from no other; where it tells, that is known.
pub record StandsFor (keeper : ShownKeeper) (s : StateData) : Type 0 where
  pub going : IsTrue keeper.going
  pub told : IsTrue keeper.tells → keeper.stands s
  pub only : (t : StateData) → keeper.stands t → t ≡ s

-- A crash at any moment since old leaves what has P.
pub record LeavesOnly (old new : ShownKeeper) (P : Option Left → Type 0) : Type 0 where
  pub later : old.moment ≤ new.moment
  pub each : (l : Option Left) → new.left_since old.moment l → P l
  -- for a run that began earlier
  pub before : (t : ℕ) (l : Option Left) → t ≤ old.moment → new.left_since t l → old.left_since t l ⊎ P l

-- all that it shows is as before
pub record SameKeeper (old new : ShownKeeper) : Type 0 where
  pub tells : new.tells ≡ old.tells
  pub recalls : new.recalls ≡ old.recalls
  pub going : new.going ≡ old.going
  pub is_long : new.is_long ≡ old.is_long
  pub is_old : new.is_old ≡ old.is_old
  pub can_compact : new.can_compact ≡ old.can_compact
  pub stands : (s : StateData) → new.stands s ↔ old.stands s
  pub crash : (l : Option Left) → new.may_leave l ↔ old.may_leave l
  pub moment : new.moment ≡ old.moment
  pub since : (t : ℕ) (l : Option Left) → new.left_since t l ↔ old.left_since t l

-- it may be opened with the states with which it could be before
abbrev pub SameOpenings : (StateData → Type 0) → (StateData → Type 0) → Type 0
SameOpenings old new = (s : StateData) → new s ↔ old s
