-- The work can always be told, what polls stand for in it is bounded, and none is left only where nothing is to do.
use Rattle.std.specs.Prelude.{ℕ, ◌*◌, ◌<◌, ◌≡◌, ◌≤◌, ◌⊎◌}
use Rattle.heat_plan.specs.declared.token.Token.{Token}
use Rattle.mail_table.specs.declared.mail.Stage.TheVariants.{Polling}
use Rattle.core_state.specs.State.{StateData}
use Rattle.step_relation.specs.Sound.{Standing}
use Rattle.bound_laws.specs.Bound.{IsWork}
use Rattle.bound_laws.specs.Counts.{Counts}
use Rattle.bound_laws.specs.Full.{IsFullWork, IsJob}
use Rattle.bound_laws.specs.Work.{IsAt, IsLetter}

-- each state has some work left
abbrev pub WorkExists : Type 0
WorkExists = (left : Token → ℕ) (s : StateData) → (n : ℕ) × IsWork left s n

-- and no state has two amounts of it
abbrev pub WorkIsOne : Type 0
WorkIsOne = (left : Token → ℕ) (s : StateData) (n m : ℕ) → IsWork left s n → IsWork left s m → n ≡ m

-- nor of the full work
abbrev pub FullWorkIsOne : Type 0
FullWorkIsOne = (s : StateData) (n m : ℕ) → IsFullWork s n → IsFullWork s m → n ≡ m

-- where a letter waits, or there is a job, some is left
abbrev pub WorkIsLeft : Type 0
WorkIsLeft = (left : Token → ℕ) (s : StateData) (n : ℕ) → Standing s → IsWork left s n
    → ((i : ℕ) × IsLetter s i) ⊎ ((e : ℕ) × IsJob s e) → 0 < n

-- where at most 64 polls are left for each token, a job that polls stands for 66 at most
abbrev pub PollsAreFew : Type 0
PollsAreFew = (left : Token → ℕ) (s : StateData) (n k : ℕ) (w : IsWork left s n) → ((t : Token) → left t ≤ 64)
    → Counts (IsAt Polling s) k → w.polls ≤ 66 * k
