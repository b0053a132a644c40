-- What halts a book behind a part of a line, alone and behind another part.
use Rattle.std.proofs.Common.{◌≡◌, ◌≢◌, List, refl, sym, ap, ◌∙◌, Result, Err}
use Rattle.std.specs.Prelude.{None, Option, Some, ℕ}
use Rattle.heat_plan.specs.Refusals.{code_of}
use Rattle.heat_plan.specs.declared.refusal.Refusal.{Refusal}
use Rattle.heat_plan.specs.declared.refusal.Refusal.TheVariants as refusal
use Rattle.book.specs.Halting.{halt_for}
use Rattle.book.specs.Halts.{Halts}
use Rattle.book.specs.declared.halting.Halt.{Halt}
use Rattle.driver.specs.Kept.{Shown}
use Rattle.driver.specs.Quiet.{Page}
use Rattle.core_state.specs.State.{StateData}
use Rattle.core_state.specs.declared.entry.Entry.{Entry}
use Rattle.converge_call.specs.declared.exit.Exit.{Exit}
use Rattle.converge_call.specs.declared.exit.Exit.TheVariants as exit
use Rattle.converge_call.specs.Commands.{exit_unmade}
use Rattle.converge_call.specs.Halting.{HaltsBehind, halt_behind, halt_broken}
use Rattle.converge_call.specs.Notes.{HasDone, IsUndone, did, broke}

abbrev pub HaltsSo : Option Halt → Option Halt → Result (Unit {0}) Exit → Type 0
HaltsSo before now result = HaltsBehind halt_broken before now result

-- what ends well, or for want of memory, halts nothing
pub undone_end : (D : StateData → StateData → List Entry → Type 0) (old new : Page) (result : Result (Unit {0}) Exit)
    → HasDone D IsUndone old new result → halt_behind halt_broken result ≡ None
undone_end D old new result (did es d is went) = ap (halt_behind halt_broken) went
undone_end D old new result (broke es why un is failed) =
    ap (halt_behind halt_broken) failed ∙ ap halt_broken un.memory

-- a part that halts nothing
pub halts_not : (before now : Option Halt) (result : Result (Unit {0}) Exit) → now ≡ before
    → halt_behind halt_broken result ≡ None → HaltsSo before now result
halts_not before now result same none goes = same ∙ (goes ∙ sym none)

-- behind a part that halts nothing
pub halts_then : (before mid now : Option Halt) (result : Result (Unit {0}) Exit) → mid ≡ before
    → HaltsSo mid now result → HaltsSo before now result
halts_then before mid now result same next goes = next (same ∙ goes)

-- a call of the book, by its own answer
module _ {K P A : Type 0} (faults_of : K → ℕ) (fault answer : A) (old new : Shown K P) where
  pub halts_by_fault : Halts faults_of fault old new answer → answer ≡ fault
      → HaltsSo old.halt new.halt (Err exit.DiskFault)
  halts_by_fault it is goes = (it.faulted is).halted

  pub halts_else : (result : Result (Unit {0}) Exit) → Halts faults_of fault old new answer → answer ≢ fault
      → halt_behind halt_broken result ≡ None → HaltsSo old.halt new.halt result
  halts_else result it other none goes = it.same other ∙ (goes ∙ sym none)

-- a refusal without a code
pub unmade_halts : (r : Refusal) → halt_broken (exit_unmade r) ≡ halt_for r
unmade_halts refusal.StackExists = refl
unmade_halts refusal.NoStack = refl
unmade_halts refusal.Deleting = refl
unmade_halts refusal.TooManyStacks = refl
unmade_halts refusal.TooManyRows = refl
unmade_halts refusal.Worn = refl
unmade_halts refusal.NoEngine = refl
unmade_halts refusal.TooManyEngines = refl
unmade_halts refusal.NotRunning = refl
unmade_halts refusal.DiskFault = refl
unmade_halts refusal.Memory = refl

-- one with a code
pub coded_halts : (r : Refusal) (code : List ℕ) → Some code ≡ code_of r → halt_for r ≡ None
coded_halts refusal.StackExists code is = refl
coded_halts refusal.NoStack code is = refl
coded_halts refusal.Deleting code is = refl
coded_halts refusal.TooManyStacks code is = refl
coded_halts refusal.TooManyRows code is = refl
coded_halts refusal.Worn code is = refl
coded_halts refusal.NoEngine code is = refl
coded_halts refusal.TooManyEngines code is = refl
coded_halts refusal.NotRunning code is = refl
coded_halts refusal.DiskFault code is = cc
coded_halts refusal.Memory code is = refl

-- a refusal of a call of the book, noted or not
module _ {K P A : Type 0} (faults_of : K → ℕ) (old mid new : Shown K P) where
  pub halts_refused : (r : Refusal) (result : Result (Unit {0}) Exit)
      → Halts {A = Result A Refusal} faults_of (Err refusal.DiskFault) old mid (Err r) → new.halt ≡ mid.halt
      → halt_behind halt_broken result ≡ halt_for r → HaltsSo old.halt new.halt result
  halts_refused refusal.DiskFault result it same ends goes = same ∙ ((it.faulted refl).halted ∙ sym ends)
  halts_refused refusal.StackExists result it same ends goes = same ∙ (it.same (λ e. cc) ∙ (goes ∙ sym ends))
  halts_refused refusal.NoStack result it same ends goes = same ∙ (it.same (λ e. cc) ∙ (goes ∙ sym ends))
  halts_refused refusal.Deleting result it same ends goes = same ∙ (it.same (λ e. cc) ∙ (goes ∙ sym ends))
  halts_refused refusal.TooManyStacks result it same ends goes = same ∙ (it.same (λ e. cc) ∙ (goes ∙ sym ends))
  halts_refused refusal.TooManyRows result it same ends goes = same ∙ (it.same (λ e. cc) ∙ (goes ∙ sym ends))
  halts_refused refusal.Worn result it same ends goes = same ∙ (it.same (λ e. cc) ∙ (goes ∙ sym ends))
  halts_refused refusal.NoEngine result it same ends goes = same ∙ (it.same (λ e. cc) ∙ (goes ∙ sym ends))
  halts_refused refusal.TooManyEngines result it same ends goes = same ∙ (it.same (λ e. cc) ∙ (goes ∙ sym ends))
  halts_refused refusal.NotRunning result it same ends goes = same ∙ (it.same (λ e. cc) ∙ (goes ∙ sym ends))
  halts_refused refusal.Memory result it same ends goes = same ∙ (it.same (λ e. cc) ∙ (goes ∙ sym ends))
