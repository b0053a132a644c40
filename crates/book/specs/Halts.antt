-- When a book may be halted, and what its calls then come to.
use Rattle.std.specs.Prelude.{None, Option, Some, ℕ, ◌≡◌, ◌≢◌, ◌≤◌}
use Rattle.heat_value.specs.Counts.{Rose}
use Rattle.core_state.specs.State.{StateData}
use Rattle.book.specs.Kept.{Shown}
use Rattle.book.specs.Turned.{IsWornBy}
use Rattle.book.specs.declared.halting.Halt.TheVariants as halt
use Rattle.book.specs.declared.halting.Halt.{Halt}

-- the next step of an engine would raise a number or a key too far
pub record HasWorn (s : StateData) : Type 0 where
  pub engine : ℕ
  pub worn : IsWornBy s engine

-- this may have halted a book of this state, whose keeper has failed so often at the opening and by now
abbrev pub IsHaltedAs : (before now : ℕ) → StateData → Option Halt → Type 0
IsHaltedAs before now s None = Unit {0}
IsHaltedAs before now s (Some halt.Worn) = HasWorn s
IsHaltedAs before now s (Some halt.Memory) = Unit {0}
IsHaltedAs before now s (Some halt.DiskFault) = Rose before now
IsHaltedAs before now s (Some halt.Refused) = Unit {0}

-- this may have halted a book
abbrev pub MayHalt : {K P : Type 0} → (K → ℕ) → Shown K P → Option Halt → Type 0
MayHalt faults_of b h = IsHaltedAs (faults_of b.origin.keeper) (faults_of b.keeper) b.state h

-- what halts a book from outside: not the keeper, and not a restart
pub record IsForeignCause (why : Halt) : Type 0 where
  pub not_fault : why ≢ halt.DiskFault
  pub not_refused : why ≢ halt.Refused

-- the first cause stays
abbrev pub first_cause : Option Halt → Halt → Option Halt
first_cause None why = Some why
first_cause (Some first) why = Some first

-- where the book is halted, nothing changes, and this is answered
abbrev pub IsRefused : {K P A : Type 0} → Shown K P → Shown K P → A → A → Type 0
IsRefused old new answer result = old.halt ≢ None → (new ≡ old) × (result ≡ answer)

-- the keeper failed in this call, which halts the book
pub record HasFaulted {K P : Type 0} (faults_of : K → ℕ) (old new : Shown K P) : Type 0 where
  pub rose : Rose (faults_of old.keeper) (faults_of new.keeper)
  pub halted : new.halt ≡ Some halt.DiskFault

-- such an answer comes of a fault of the keeper, and no other halts the book
pub record Halts {K P A : Type 0} (faults_of : K → ℕ) (fault : A) (old new : Shown K P) (result : A) : Type 0 where
  pub later : faults_of old.keeper ≤ faults_of new.keeper
  pub faulted : result ≡ fault → HasFaulted faults_of old new
  pub same : result ≢ fault → new.halt ≡ old.halt
