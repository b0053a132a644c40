-- What holds of every image with which a book is opened, and of all that its steps make of it.
use Rattle.std.specs.Prelude.{Contains, List, Some, [], ℕ, ◌++◌, ◌≡◌, ◌⊎◌}
use Rattle.heat_plan.specs.declared.calls.Request.{Request}
use Rattle.row_table.specs.Rows.{row_at}
use Rattle.row_table.specs.declared.row.Row.{Row}
use Rattle.mail_table.specs.declared.mail.Job.{Job}
use Rattle.mail_table.specs.declared.mail.Stage.{Stage}
use Rattle.core_state.specs.Applies.{AllApply}
use Rattle.core_state.specs.Changes.{applied}
use Rattle.core_state.specs.State.{StateData}
use Rattle.core_state.specs.declared.change.Change.{Change}
use Rattle.core_state.specs.declared.entry.Entry.{Entry}
use Rattle.step_relation.specs.Given.{Given}
use Rattle.step_relation.specs.Nexts.{Works}
use Rattle.step_relation.specs.Rows.{token_of}
use Rattle.step_relation.specs.Runs.{Judges, Run}
use Rattle.step_relation.specs.Steps.{Step}
use Rattle.step_relation.specs.Turns.{Turn, WearsOut}
use Rattle.step_relation.specs.Could.{could_of}
use Rattle.step_relation.specs.Opening.{Opening}
use Rattle.step_relation.specs.Images.{AreKeepable}
use Rattle.step_relation.specs.Headline.{MayBeAsked}
use Rattle.step_relation.specs.Sound.{Sound}
use Rattle.next_laws.specs.Fits.{IsKin}
use Rattle.next_laws.specs.HasTurn.{HasWork, StepsOrIsIdle}
use Rattle.next_laws.specs.Suits.{Suits}
use Rattle.next_laws.specs.Found.{IsAskedAt}
use Rattle.workable_laws.specs.Admitted.{IsAdmitted, IsStill, restarted}
use Rattle.workable_laws.specs.Workable.{Workable}

-- an admitted image is workable where no live engine has a job
abbrev pub AdmittedIsWorkable : Type 0
AdmittedIsWorkable = (o : Opening) → IsAdmitted o → IsStill o.state → Workable o [] o.state

-- as it is once its engines are stopped and others are enlisted
abbrev pub RestartedIsWorkable : Type 0
RestartedIsWorkable = (o : Opening) (count : ℕ) → IsAdmitted o
    → Workable (restarted o count) [] (restarted o count).state

-- a sound state is
abbrev pub SoundIsWorkable : Type 0
SoundIsWorkable = (o : Opening) (h : List Entry) (s : StateData) → Sound o h s → Workable o h s

-- a sound opening is admitted: what a book leaves is never refused
abbrev pub SoundIsAdmitted : Type 0
SoundIsAdmitted = (o : Opening) → Sound o [] o.state → IsAdmitted o

-- each step leaves it so
abbrev pub StepsKeepWorkable : Type 0
StepsKeepWorkable = (o : Opening) (h : List Entry) (s : StateData) (cs : List Change) (es : List Entry) → Workable o h s
    → Step s cs es
    → Workable o (h ++ es) (applied cs s)

-- each change of a step may be made to the state that those before it left
abbrev pub StepsApply : Type 0
StepsApply = (o : Opening) (h : List Entry) (s : StateData) (cs : List Change) (es : List Entry) → Workable o h s
    → Step s cs es → AllApply cs s

-- and a record may hold them
abbrev pub StepsAreKeepable : Type 0
StepsAreKeepable = (o : Opening) (h : List Entry) (s : StateData) (cs : List Change) (es : List Entry) → Workable o h s
    → Step s cs es → AreKeepable cs

-- a live engine has what its next step needs
abbrev pub WorkableHasWork : Type 0
WorkableHasWork = (o : Opening) (h : List Entry) (s : StateData) (e : ℕ) → Workable o h s
    → Contains s.live e → HasWork s e

-- and asks of the cloud only what may be asked
abbrev pub WorkableMayAsk : Type 0
WorkableMayAsk = (o : Opening) (h : List Entry) (s : StateData) (e : ℕ) (j : Job) (r : Row) (stage : Stage)
    (asked : Request)
    → Workable o h s → Works s e j stage → row_at s.rows j.row ≡ Some r → IsAskedAt r stage asked
    → MayBeAsked (could_of o h (token_of r)) asked

-- The next step of a live engine: it is idle, or something suits its turn, and never both. Whatever suits makes one
-- turn, which is a step or is worn out, and all that suits is of one kind.
pub record HasNext (s : StateData) (e : ℕ) : Type 0 where
  pub next : StepsOrIsIdle s e
  pub steps : (given : Given) → Suits s e given
      → (cs : List Change) × (es : List Entry) × Turn s e given cs es × (WearsOut s e given ⊎ Step s cs es)
  pub one : (given : Given) (cs ds : List Change) (es fs : List Entry) → Turn s e given cs es → Turn s e given ds fs
      → (cs ≡ ds) × (es ≡ fs)
  pub kin : (a b : Given) → Suits s e a → Suits s e b → IsKin a b

-- a live engine has it in a workable state
abbrev pub WorkableHasNext : Type 0
WorkableHasNext = (o : Opening) (h : List Entry) (s : StateData) (e : ℕ) → Workable o h s → Contains s.live e
    → HasNext s e

-- every run from an admitted image stays workable
abbrev pub RunsStayWorkable : Type 0
RunsStayWorkable = (registries : List Judges) (o : Opening) (count : ℕ) (s : StateData) (h : List Entry) → IsAdmitted o
    → Run registries (restarted o count).state s h → Workable (restarted o count) h s

-- and each live engine has its next step then, or is idle
abbrev pub RunsHaveNext : Type 0
RunsHaveNext = (registries : List Judges) (o : Opening) (count : ℕ) (s : StateData) (h : List Entry) → IsAdmitted o
    → Run registries (restarted o count).state s h → (e : ℕ) → Contains s.live e → HasNext s e
