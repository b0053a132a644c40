-- What stays of a book while it turns.
use Rattle.std.proofs.Common.{[], arith, refl, subst, sym, ◌∙◌, ◌≡◌, ◌≤◌, ℕ}
use Rattle.provider.specs.Cloud.{Cloud}
use Rattle.step_relation.specs.Laws.{opening_at}
use Rattle.step_relation.specs.Sound.{Sound}
use Rattle.book.specs.Halts.{Halts}
use Rattle.book.specs.Kept.{IsSameBook, IsSoundOpening, Origin, Shown}
use Rattle.book.specs.declared.turning.Turn.{Turn as turn_type}
use Rattle.book.specs.declared.turning.Turn.TheVariants as turn
use Rattle.book.proofs.Held.{rose_since}
use Rattle.core_state.specs.State.{StateData}
use Rattle.driver.specs.declared.ran.Ran.TheVariants as ran

-- a sound opening stays one
pub sound_still : {K P : Type 0} (cloud_of : P → Cloud) (old new : Shown K P) → IsSameBook old new
    → IsSoundOpening cloud_of old → IsSoundOpening cloud_of new
sound_still {K} {P} cloud_of old new same sound =
    subst (λ (s : StateData). Sound (opening_at s (cloud_of new.origin.cloud)) [] s) (sym same.opening)
    (subst (λ (o : Origin K P). Sound (opening_at old.opening (cloud_of o.cloud)) [] old.opening) (sym same.origin) sound)

-- a fault of the keeper in the last turn
pub halts_fault : {K P : Type 0} (faults_of : K → ℕ) (old mid new : Shown K P) {r : turn_type}
    → faults_of old.keeper ≤ faults_of mid.keeper
    → Halts faults_of turn.DiskFault mid new r → r ≡ turn.DiskFault → Halts faults_of ran.DiskFault old new ran.DiskFault
halts_fault faults_of old mid new le it is =
    let f = it.faulted is in record {
      later = let more = it.later in omega (arith, le, more);
      faulted = λ same. record {
        rose = rose_since (faults_of old.keeper) (faults_of mid.keeper) (faults_of new.keeper) le f.rose;
        halted = f.halted;
      };
      same = λ ne. absurd (ne refl);
    }
