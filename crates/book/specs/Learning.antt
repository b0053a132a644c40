-- What is made of a poll's answer of unknown size.
use Rattle.std.specs.Prelude.{List, [], ℕ, ◌∷◌, ◌≡◌, ◌≢◌}
use Rattle.heat_plan.specs.declared.calls.Answered.{Answered}
use Rattle.mail_table.specs.declared.mail.Stage.TheVariants.{Polling}
use Rattle.core_state.specs.declared.change.Change.{Change}
use Rattle.core_state.specs.declared.entry.Entry.{Entry}
use Rattle.core_state.specs.declared.made.Made.{Made}
use Rattle.step_relation.specs.Asks.{Calls}
use Rattle.step_relation.specs.Given.{Answer}
use Rattle.step_relation.specs.Turns.{Turn, WearsOut}
use Rattle.step_relation.specs.Writes.{call_entry}
use Rattle.heat_plan.specs.declared.calls.Request.TheVariants as request
use Rattle.record_keeper.specs.Shown.{ShownKeeper}
use Rattle.book.specs.Behind.{alone_changes}
use Rattle.book.specs.Keeping.{KeptBy}
use Rattle.book.specs.Outcomes.{IsAnswered}
use Rattle.book.specs.Quiet.{Page, Writes}
use Rattle.book.specs.Turned.{WhyAlone}
use Rattle.book.specs.declared.turning.Turn.TheVariants as turn
use Rattle.book.specs.declared.turning.Turn.{Turn as Turn_answer}

-- its step was made
pub record IsStored (e : ℕ) (given : Answered) (old new : Page) : Type 0 where
  pub made : Made
  pub turn : IsAnswered old.state e given made
  pub writes : Writes made.changes made.entries old new

-- or the call alone was told, since there was no memory for what its step stores, or the keeper failed
pub data HasLearned (e : ℕ) (given : Answered) (old new : Page) (result : Turn_answer) : Type 0 where
  stored : IsStored e given old new → result ≡ turn.Stepped → HasLearned e given old new result
  told : (k : Calls old.state e Polling) (cs : List Change) (es rest : List Entry) → WhyAlone result given → cs ≢ []
      → Turn old.state e (Answer given) cs es → ¬ WearsOut old.state e (Answer given)
      → es ≡ call_entry e k.row request.Poll given ∷ rest
      → Writes [] (call_entry e k.row request.Poll given ∷ []) old new → HasLearned e given old new result

-- the changes that were made, or tried to have kept
abbrev pub tried_in : {e : ℕ} {given : Answered} {old new : Page} {result : Turn_answer}
    → HasLearned e given old new result → List Change
tried_in (stored it is) = it.made.changes
tried_in (told k cs es rest why some it lasts first writes) = alone_changes why cs

-- what was learned, and what it leaves with the keeper
pub record Learns (e : ℕ) (given : Answered) (old new : Page) (before after : ShownKeeper) (faults now : ℕ)
    (result : Turn_answer) : Type 0 where
  pub learned : HasLearned e given old new result
  pub kept : KeptBy before after faults now old.state new.state (tried_in learned) (result ≡ turn.DiskFault)
