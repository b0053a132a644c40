-- How many turns may still come, at most: the finer form, and that each turn lowers it.
use Rattle.std.specs.Prelude.{List, ℕ, ◌*◌, ◌+◌, ◌<◌, ◌≡◌}
use Rattle.heat_plan.specs.declared.token.Token.{Token}
use Rattle.provider.specs.Cloud.{Cloud}
use Rattle.mail_table.specs.declared.mail.Stage.TheVariants.{Asking, Ending, Taken}
use Rattle.core_state.specs.Changes.{applied}
use Rattle.core_state.specs.State.{StateData}
use Rattle.core_state.specs.declared.change.Change.{Change}
use Rattle.core_state.specs.declared.entry.Entry.{Entry}
use Rattle.step_relation.specs.Given.{Given}
use Rattle.step_relation.specs.Runs.{IsTied, Judges}
use Rattle.step_relation.specs.Turns.{Turn}
use Rattle.step_relation.specs.Sound.{Standing}
use Rattle.bound_laws.specs.Counts.{Counts}
use Rattle.bound_laws.specs.Polls.{AreFew, Polled}
use Rattle.bound_laws.specs.Rolls.{RollFar, RollItem, RollJob, RollLetter, RollNode, RollRow}
use Rattle.bound_laws.specs.Work.{IsAt, IsLate, IsLeft, IsLetter, IsPoll, IsUnready}

-- what a rollback of each stack could need
pub record RollWork (s : StateData) (n : ℕ) : Type 0 where
  pub letters : ℕ
  pub nodes : ℕ
  pub jobs : ℕ
  pub items : ℕ
  pub rows : ℕ
  pub far : ℕ
  pub letters_are : Counts (RollLetter s) letters
  pub nodes_are : Counts (RollNode s) nodes
  pub jobs_are : Counts (RollJob s) jobs
  pub items_are : Counts (RollItem s) items
  pub rows_are : Counts (RollRow s) rows
  pub far_are : Counts (RollFar s) far
  pub sum : n ≡ letters + nodes + jobs + items + rows + far

-- the work that is left, with so many polls for each token
pub record IsWork (left : Token → ℕ) (s : StateData) (n : ℕ) : Type 0 where
  pub letters : ℕ
  pub nodes : ℕ
  pub stopped : ℕ
  pub taken : ℕ
  pub asking : ℕ
  pub polls : ℕ
  pub ending : ℕ
  pub late : ℕ
  pub rolls : ℕ
  pub letters_are : Counts (IsLetter s) letters
  pub nodes_are : Counts (IsUnready s) nodes
  pub stopped_are : Counts (IsLeft s) stopped
  pub taken_are : Counts (IsAt Taken s) taken
  pub asking_are : Counts (IsAt Asking s) asking
  pub polls_are : Counts (IsPoll left s) polls
  pub ending_are : Counts (IsAt Ending s) ending
  pub late_are : Counts (IsLate s) late
  pub rolls_are : RollWork s rolls
  pub sum : n ≡ 69 * letters + 69 * nodes + 70 * stopped + 68 * taken + 67 * asking + polls + ending + 69 * late
      + 69 * rolls

-- a turn of a run, which was given what its item resolves to, and what its cloud made of it
pub record IsTurnOf (judges : Judges) (s : StateData) (e : ℕ) (given : Given) (cs : List Change) (es : List Entry)
    (old new : Cloud) : Type 0 where
  pub turn : Turn s e given cs es
  pub tied : IsTied judges s e given
  pub polled : Polled s e given old new

-- each turn, which is never that of an idle engine, lowers the work, where at most 64 polls are left for each token
abbrev pub TurnsLowerWork : Type 0
TurnsLowerWork = (judges : Judges) (s : StateData) (e : ℕ) (given : Given) (cs : List Change) (es : List Entry)
    (old new : Cloud) (n m : ℕ) → Standing s → IsTurnOf judges s e given cs es old new → AreFew new
    → IsWork old.left s n → IsWork new.left (applied cs s) m → m < n
