-- What holds of a keeper at every moment; may_open are the states with which it may be opened.
use Rattle.std.specs.Prelude.{IfSome, IsTrue, None, Option, Some, ℕ, ◌≡◌, ◌≤◌}
use Rattle.core_state.specs.State.{StateData}
use Rattle.record_keeper.specs.Shown.{Left, ShownKeeper, at_rest}

-- of one that tells what it reads as
pub record IsRecalled (may_open : StateData → Type 0) (keeper : ShownKeeper) : Type 0 where
  pub one : (s t : StateData) → may_open s → may_open t → s ≡ t
  -- it reads as what it stands for
  pub stood : (s : StateData) → keeper.stands s → may_open s

-- of one that tells what a crash may leave
pub record IsTold (may_open : StateData → Type 0) (keeper : ShownKeeper) : Type 0 where
  -- a crash leaves something
  pub some : ¬ ((l : Option Left) → ¬ keeper.may_leave l)
  -- and nothing but the state that it stands for
  pub durable : (s : StateData) (l : Option Left) → keeper.stands s → keeper.may_leave l → l ≡ Some (at_rest s)
  -- what it reads as is one of these
  pub reads : (s : StateData) → may_open s → (l : Option Left) × keeper.may_leave l × IfSome l (λ k. k.reads ≡ s)
  pub reads_none : ((s : StateData) → ¬ may_open s) → keeper.may_leave None
  -- now is one of the moments since an earlier one
  pub counts_now : (t : ℕ) (l : Option Left) → t ≤ keeper.moment → keeper.may_leave l → keeper.left_since t l
  -- since now there is no other
  pub only_now : (l : Option Left) → keeper.left_since keeper.moment l → keeper.may_leave l
  -- since an earlier moment there are at least as many
  pub widens : (t u : ℕ) (l : Option Left) → t ≤ u → keeper.left_since u l → keeper.left_since t l

pub record IsLawful (may_open : StateData → Type 0) (keeper : ShownKeeper) : Type 0 where
  -- it stands for one state at most, and for none where it isn't going
  pub one : (s t : StateData) → keeper.stands s → keeper.stands t → s ≡ t
  pub open_ : (s : StateData) → keeper.stands s → IsTrue keeper.going
  -- it is never long where nothing could be done about it
  pub shortens : IsTrue keeper.is_long → IsTrue keeper.can_compact
  -- one that tells what a crash leaves tells what it reads as, too
  pub recalls : IsTrue keeper.tells → IsTrue keeper.recalls
  pub recalled : IsTrue keeper.recalls → IsRecalled may_open keeper
  pub told : IsTrue keeper.tells → IsTold may_open keeper
