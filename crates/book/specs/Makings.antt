-- A step that was thought out is made, or nothing is.
use Rattle.std.specs.Prelude.{Err, List, Ok, Result, [], take, ℕ, ◌≡◌, ◌≢◌}
use Rattle.heat_plan.specs.declared.refusal.Refusal.{Refusal}
use Rattle.heat_plan.specs.declared.refusal.Refusal.TheVariants as refusal
use Rattle.core_state.specs.State.{StateData}
use Rattle.core_state.specs.declared.change.Change.{Change}
use Rattle.core_state.specs.declared.entry.Entry.{Entry}
use Rattle.core_state.specs.declared.made.Made.{Made}
use Rattle.step_relation.specs.Given.{Given}
use Rattle.step_relation.specs.Runs.{IsTied}
use Rattle.step_relation.specs.Turns.{Turn, WearsOut}
use Rattle.record_keeper.specs.Shown.{ShownKeeper}
use Rattle.book.specs.Keeping.{KeptBy}
use Rattle.book.specs.Kept.{unjudged}
use Rattle.book.specs.Quiet.{Page, Writes}
use Rattle.book.specs.Turned.{IsQuiet, IsWornBy}
use Rattle.book.specs.declared.turning.Turn.TheVariants as turn
use Rattle.book.specs.declared.turning.Turn.{Turn as Turn_answer}

-- the step was made; or it was refused, wasn't kept, or found no memory, and nothing has changed
pub data MadeAs (made : Result Made Refusal) (old new : Page) (result : Result (Unit {0}) Refusal) : Type 0 where
  done : (m : Made) → made ≡ Ok m → Writes m.changes m.entries old new → result ≡ Ok tt → MadeAs made old new result
  refused : (r : Refusal) → made ≡ Err r → new ≡ old → result ≡ Err r → MadeAs made old new result
  unkept : (m : Made) → made ≡ Ok m → m.changes ≢ [] → new ≡ old → result ≡ Err refusal.DiskFault
      → MadeAs made old new result
  memory : new ≡ old → result ≡ Err refusal.Memory → MadeAs made old new result

-- one of these steps was made, and this was answered; or it was refused so, wasn't kept, or found no memory
pub data Does {A : Type 0} (Is : List Change → List Entry → Type 0) (Refuses : Refusal → Type 0) (answer : A)
    (old new : Page) (result : Result A Refusal) : Type 0 where
  done : (cs : List Change) (es : List Entry) → Is cs es → Writes cs es old new → result ≡ Ok answer
      → Does Is Refuses answer old new result
  refused : (r : Refusal) → Refuses r → new ≡ old → result ≡ Err r → Does Is Refuses answer old new result
  unkept : (cs : List Change) (es : List Entry) → Is cs es → cs ≢ [] → new ≡ old → result ≡ Err refusal.DiskFault
      → Does Is Refuses answer old new result
  memory : new ≡ old → result ≡ Err refusal.Memory → Does Is Refuses answer old new result

-- a turn of the engine that asks nobody
pub record IsQuietTurn (s : StateData) (e : ℕ) (made : Made) : Type 0 where
  pub given : Given
  pub quiet : IsQuiet given
  pub turn : Turn s e given made.changes made.entries
  pub lasts : ¬ WearsOut s e given
  pub tied : IsTied unjudged s e given

-- there was no memory for it, or it is worn out
pub data IsQuietRefusal (s : StateData) (e : ℕ) (r : Refusal) : Type 0 where
  memory : r ≡ refusal.Memory → IsQuietRefusal s e r
  worn : r ≡ refusal.Worn → IsWornBy s e → IsQuietRefusal s e r

-- a step that asks nobody was made, or nothing was
pub data MadeQuietly (made : Result Made Refusal) (old new : Page) (result : Turn_answer) : Type 0 where
  stepped : (m : Made) → made ≡ Ok m → Writes m.changes m.entries old new → result ≡ turn.Stepped
      → MadeQuietly made old new result
  worn : made ≡ Err refusal.Worn → new ≡ old → result ≡ turn.Worn → MadeQuietly made old new result
  unkept : (m : Made) → made ≡ Ok m → m.changes ≢ [] → new ≡ old → result ≡ turn.DiskFault
      → MadeQuietly made old new result
  unmade : new ≡ old → result ≡ turn.Memory → MadeQuietly made old new result

-- the changes that were made, or tried to have kept
abbrev pub tried_as : {made : Result Made Refusal} {old new : Page} {result : Result (Unit {0}) Refusal}
    → MadeAs made old new result → List Change
tried_as (done m is writes ends) = m.changes
tried_as (refused r is same ends) = []
tried_as (unkept m is some same ends) = m.changes
tried_as (memory same ends) = []

abbrev pub tried_to : {A : Type 0} {Is : List Change → List Entry → Type 0} {Refuses : Refusal → Type 0} {answer : A}
    {old new : Page} {result : Result A Refusal} → Does Is Refuses answer old new result → List Change
tried_to (done cs es it writes ends) = cs
tried_to (refused r why same ends) = []
tried_to (unkept cs es it some same ends) = cs
tried_to (memory same ends) = []

abbrev pub tried_quietly : {made : Result Made Refusal} {old new : Page} {result : Turn_answer}
    → MadeQuietly made old new result → List Change
tried_quietly (stepped m is writes ends) = m.changes
tried_quietly (worn is same ends) = []
tried_quietly (unkept m is some same ends) = m.changes
tried_quietly (unmade same ends) = []

-- the turn of a step that was to be made
abbrev pub turn_for : Result (Unit {0}) Refusal → Turn_answer
turn_for (Ok u) = turn.Stepped
turn_for (Err refusal.StackExists) = turn.Memory
turn_for (Err refusal.NoStack) = turn.Memory
turn_for (Err refusal.Deleting) = turn.Memory
turn_for (Err refusal.TooManyStacks) = turn.Memory
turn_for (Err refusal.TooManyRows) = turn.Memory
turn_for (Err refusal.Worn) = turn.Worn
turn_for (Err refusal.NoEngine) = turn.Memory
turn_for (Err refusal.TooManyEngines) = turn.Memory
turn_for (Err refusal.NotRunning) = turn.Memory
turn_for (Err refusal.DiskFault) = turn.DiskFault
turn_for (Err refusal.Memory) = turn.Memory

-- each with what it leaves with the keeper
pub record MakesAs (made : Result Made Refusal) (old new : Page) (before after : ShownKeeper) (faults now : ℕ)
    (result : Result (Unit {0}) Refusal) : Type 0 where
  pub does : MadeAs made old new result
  pub kept : KeptBy before after faults now old.state new.state (tried_as does) (result ≡ Err refusal.DiskFault)

pub record DoesSo {A : Type 0} (Is : List Change → List Entry → Type 0) (Refuses : Refusal → Type 0) (answer : A)
    (old new : Page) (before after : ShownKeeper) (faults now : ℕ) (result : Result A Refusal) : Type 0 where
  pub does : Does Is Refuses answer old new result
  pub kept : KeptBy before after faults now old.state new.state (tried_to does) (result ≡ Err refusal.DiskFault)

pub record MakesQuietly (made : Result Made Refusal) (old new : Page) (before after : ShownKeeper) (faults now : ℕ)
    (result : Turn_answer) : Type 0 where
  pub does : MadeQuietly made old new result
  pub kept : KeptBy before after faults now old.state new.state (tried_quietly does) (result ≡ turn.DiskFault)

-- the step of an answer was made; or the keeper failed, and its first entry alone is told
pub data AnswersAs (made : Made) (old new : Page) (result : Turn_answer) : Type 0 where
  stepped : Writes made.changes made.entries old new → result ≡ turn.Stepped → AnswersAs made old new result
  alone : made.changes ≢ [] → Writes [] (take 1 made.entries) old new → result ≡ turn.DiskFault
      → AnswersAs made old new result

pub record Answers (made : Made) (old new : Page) (before after : ShownKeeper) (faults now : ℕ) (result : Turn_answer)
    : Type 0 where
  pub does : AnswersAs made old new result
  pub kept : KeptBy before after faults now old.state new.state made.changes (result ≡ turn.DiskFault)
