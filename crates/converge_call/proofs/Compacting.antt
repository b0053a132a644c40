-- What a compaction of the book came to.
use Rattle.std.proofs.Common.{◌≡◌, ◌⊎◌, ◌∙◌, inl, inr, refl, sym, ap, Result, Ok, Err}
use Rattle.std.specs.Prelude.{None, false, ℕ}
use Rattle.provider.specs.Cloud.{Cloud}
use Rattle.record_keeper.specs.Calls.{GoesOn}
use Rattle.record_keeper.specs.Shown.{ShownKeeper}
use Rattle.book.specs.Compactions.{Compacts, LeavesState}
use Rattle.book.specs.Compactions as compacts
use Rattle.book.specs.declared.compacting.Uncompacted.{Uncompacted}
use Rattle.book.specs.declared.compacting.Uncompacted.TheVariants as why
use Rattle.driver.specs.Kept.{HasRun, IsSameBook, Shown}
use Rattle.converge_call.specs.declared.exit.Exit.{Exit}
use Rattle.converge_call.specs.declared.exit.Exit.TheVariants as exit
use Rattle.converge_call.specs.Carrying.{Carries}
use Rattle.converge_call.specs.Shortening.{Shortens, done, failed, lacking}
use Rattle.converge_call.proofs.Carrying.{carries_compacted}

module _ {K P : Type 0} (shown : K → ShownKeeper) (faults_of : K → ℕ) where
  pub compacted_done : (old new : Shown K P) → Compacts shown faults_of old new (Ok tt) → Shortens shown old new (Ok tt)
  compacted_done old new (compacts.done is same short) = done same short refl
  compacted_done old new (compacts.failed is same rose) = cc
  compacted_done old new (compacts.lacking is same kept) = cc

  pub compacted_failed : (old new : Shown K P) → Compacts shown faults_of old new (Err why.DiskFault)
      → Shortens shown old new (Err exit.DiskFault)
  compacted_failed old new (compacts.done is same short) = cc
  compacted_failed old new (compacts.failed is same rose) = failed same refl
  compacted_failed old new (compacts.lacking is same kept) = cc

  pub compacted_lacks : (old new : Shown K P) → Compacts shown faults_of old new (Err why.Memory)
      → Shortens shown old new (Err exit.Memory)
  compacted_lacks old new (compacts.done is same short) = cc
  compacted_lacks old new (compacts.failed is same rose) = cc
  compacted_lacks old new (compacts.lacking is same kept) = lacking same refl

  pub compacted_carries : (cloud_of : P → Cloud) (old new : Shown K P) (result : Result (Unit {0}) Uncompacted)
      (before now : ℕ) → HasRun cloud_of old → GoesOn (shown old.origin.keeper) (shown old.keeper) before now
      → Compacts shown faults_of old new result → (old.halt ≡ None → LeavesState shown old new)
      → Carries shown cloud_of old new
  compacted_carries cloud_of old new result before now run goes it leaves = by it where
    from : (x : Shown K P) → new ≡ x → IsSameBook old x → x.entries ≡ old.entries → Carries shown cloud_of old new
    from x is same grows = carries_compacted shown cloud_of old new before now run goes
        (record {
          opening = ap (λ (b : Shown K P). b.opening) is ∙ same.opening;
          origin = ap (λ (b : Shown K P). b.origin) is ∙ same.origin;
        })
        (ap (λ (b : Shown K P). b.entries) is ∙ grows) leaves

    by : Compacts shown faults_of old new result → Carries shown cloud_of old new
    by (compacts.done is same short) = from _ same (record { opening = refl; origin = refl }) refl
    by (compacts.failed is same rose) = from _ same (record { opening = refl; origin = refl }) refl
    by (compacts.lacking is same kept) = from _ same (record { opening = refl; origin = refl }) refl

-- what a compaction between lines leaves as it is
module _ {K P : Type 0} (shown : K → ShownKeeper) (old new : Shown K P) (result : Result (Unit {0}) Exit)
    (it : Shortens shown old new result) where
  pub shortened_state : new.state ≡ old.state
  shortened_state = by it where
    by : Shortens shown old new result → new.state ≡ old.state
    by (done same short is) = ap (λ (b : Shown K P). b.state) same
    by (lacking same is) = ap (λ (b : Shown K P). b.state) same
    by (failed same is) = ap (λ (b : Shown K P). b.state) same

  pub shortened_entries : new.entries ≡ old.entries
  shortened_entries = by it where
    by : Shortens shown old new result → new.entries ≡ old.entries
    by (done same short is) = ap (λ (b : Shown K P). b.entries) same
    by (lacking same is) = ap (λ (b : Shown K P). b.entries) same
    by (failed same is) = ap (λ (b : Shown K P). b.entries) same

  pub shortened_opening : new.opening ≡ old.opening
  shortened_opening = by it where
    by : Shortens shown old new result → new.opening ≡ old.opening
    by (done same short is) = ap (λ (b : Shown K P). b.opening) same
    by (lacking same is) = ap (λ (b : Shown K P). b.opening) same
    by (failed same is) = ap (λ (b : Shown K P). b.opening) same

  -- where it went well
  pub shortened_short : result ≡ Ok tt → (shown new.keeper).is_long ≡ false
  shortened_short went = by it where
    by : Shortens shown old new result → (shown new.keeper).is_long ≡ false
    by (done same short is) = short
    by (lacking same is) = cc
    by (failed same is) = cc

  pub shortened_halt : result ≡ Ok tt → new.halt ≡ old.halt
  shortened_halt went = by it where
    by : Shortens shown old new result → new.halt ≡ old.halt
    by (done same short is) = ap (λ (b : Shown K P). b.halt) same
    by (lacking same is) = cc
    by (failed same is) = cc

-- for which causes alone it breaks off
pub shortened_why : {K P : Type 0} (shown : K → ShownKeeper) (old new : Shown K P) (why : Exit)
    → Shortens shown old new (Err why) → (why ≡ exit.Memory) ⊎ (why ≡ exit.DiskFault)
shortened_why shown old new why (done same short is) = cc
shortened_why shown old new why (lacking same is) = inl cc
shortened_why shown old new why (failed same is) = inr cc

-- it breaks off for want of memory or a fault of the disk
pub shortened_never : {K P : Type 0} (shown : K → ShownKeeper) (old new : Shown K P) (why other : Exit)
    → Shortens shown old new (Err why) → why ≡ other → (exit.Memory ≡ other → ⊥) → (exit.DiskFault ≡ other → ⊥) → ⊥
shortened_never shown old new why other it same memory fault =
    elim (shortened_why shown old new why it) [ inl is ↦ memory (sym is ∙ same) | inr is ↦ fault (sym is ∙ same) ]
