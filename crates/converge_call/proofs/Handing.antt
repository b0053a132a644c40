-- What the drive of a book came to, over the book that is handed back.
use Rattle.std.proofs.Common.{◌≡◌, ◌∙◌, ◌≤◌, inl, inr, [], List, refl, sym, ap, subst, arith}
use Rattle.std.specs.Prelude.{Bool, IsTrue, None, Option, Some, false, ℕ}
use Rattle.heat_value.specs.Counts.{Rose}
use Rattle.core_state.specs.State.{StateData}
use Rattle.core_state.specs.declared.entry.Entry.{Entry}
use Rattle.provider.specs.Cloud.{Cloud}
use Rattle.step_relation.specs.Opening.{Opening}
use Rattle.step_relation.specs.Runs.{Run, begins}
use Rattle.record_keeper.specs.Laws.{IsLawful}
use Rattle.record_keeper.specs.Shown.{Left, LeavesOnly, ShownKeeper, StandsFor, at_rest}
use Rattle.book.specs.Halts.{IsHaltedAs}
use Rattle.book.specs.declared.halting.Halt.{Halt}
use Rattle.book.specs.declared.halting.Halt.TheVariants as halted
use Rattle.book.specs.declared.restarting.Unrestarted.{Unrestarted}
use Rattle.driver.specs.Kept.{IsSameBook, Shown, opening_of, registries}
use Rattle.driver.specs.Leaving.{IsLeftAlong}
use Rattle.driver.specs.Openings.{HasOpened, IsUnopened as IsUnopenedBook}
use Rattle.driver.specs.Scenes.{scene_of}
use Rattle.driver.proofs.Leavings.{along_rest, leaves_still, same_opening}
use Rattle.converge_call.specs.declared.exit.Exit.{Exit}
use Rattle.converge_call.specs.declared.exit.Exit.TheVariants as exit
use Rattle.converge_call.specs.Carrying.{Carries, LeavesOrNot, called, uncalled}
use Rattle.converge_call.specs.Stocks.{Stock}
use Rattle.converge_call.specs.Drives.{Drove, line_end, streams}
use Rattle.converge_call.specs.Exits.{exit_of}
use Rattle.converge_call.specs.Ends.{Around, HasDriven, IsUnopened, OpensWith, by_memory, by_opening, by_words}
use Rattle.converge_call.specs.Ends.{first_scene, outside}
use Rattle.converge_call.specs.Promises.{Promises}
use Rattle.converge_call.proofs.Completing.{calm_end}
use Rattle.converge_call.proofs.Stopping.{drive_stops}

-- a book on which nothing was done
pub record IsFresh {K P : Type 0} (shown : K → ShownKeeper) (b : Shown K P) : Type 0 where
  pub state : b.state ≡ b.opening
  pub entries : b.entries ≡ []
  pub keeper : b.keeper ≡ b.origin.keeper
  pub unhalted : b.halt ≡ None
  pub stands : StandsFor (shown b.keeper) b.state

module _ {K P : Type 0} (shown : K → ShownKeeper) (cloud_of : P → Cloud) (f b : Shown K P) (fresh : IsFresh shown f)
    (carried : Carries shown cloud_of f b) where
  -- what a crash may leave of the whole drive
  abbrev Whole : Option Left → Type 0
  Whole = IsLeftAlong (opening_of cloud_of b) [] b.entries

  origin_is : b.origin.keeper ≡ f.keeper
  origin_is = ap (λ (o : _). o.keeper) carried.same.origin ∙ sym fresh.keeper

  run : Run registries f.opening f.state []
  run = begins f.state [] fresh.state refl

  as_whole : (l : Option Left) → IsLeftAlong (opening_of cloud_of f) f.entries b.entries l → Whole l
  as_whole l k =
      subst (λ (o : Opening). IsLeftAlong o [] b.entries l) (sym (same_opening cloud_of f b carried.same))
      (subst (λ (xs : List Entry). IsLeftAlong (opening_of cloud_of f) xs b.entries l) fresh.entries k)

  -- from the first state
  rests : (l : Option Left) → l ≡ Some (at_rest f.state) → Whole l
  rests l is = as_whole l (subst (λ (xs : List Entry). IsLeftAlong (opening_of cloud_of f) xs b.entries l)
      (sym fresh.entries) (along_rest (opening_of cloud_of f) [] f.state b.entries b.entries run refl l is))

  widened : LeavesOnly (shown f.keeper) (shown b.keeper) (IsLeftAlong (opening_of cloud_of f) f.entries b.entries)
      → LeavesOnly (shown f.keeper) (shown b.keeper) Whole
  widened k = record {
    later = k.later;
    each = λ l since. as_whole l (k.each l since);
    before = λ t l earlier since. elim (k.before t l earlier since) [ inl was ↦ inl was | inr left ↦ inr (as_whole l left) ];
  }

  pub inside : (may_open : StateData → Type 0) → IsLawful may_open (shown f.keeper)
      → IsTrue (shown b.origin.keeper).tells → LeavesOnly (shown b.origin.keeper) (shown b.keeper) Whole
  inside may_open lawful tells =
      subst (λ (k : K). LeavesOnly (shown k) (shown b.keeper) Whole) (sym origin_is)
      (by (carried.leaves fresh.unhalted (subst (λ (k : K). IsTrue (shown k).tells) (origin_is ∙ fresh.keeper) tells))) where
        by : LeavesOrNot shown cloud_of f b → LeavesOnly (shown f.keeper) (shown b.keeper) Whole
        by (uncalled same) = subst (λ (k : K). LeavesOnly (shown f.keeper) (shown k) Whole) (sym same)
            (leaves_still may_open (shown f.keeper) Whole lawful
            (subst (λ (k : K). IsTrue (shown k).tells) origin_is tells) f.state fresh.stands
            (rests (Some (at_rest f.state)) refl))
        by (called k) = widened k

module _ {K P : Type 0} (shown : K → ShownKeeper) (faults_of : K → ℕ) (cloud_of : P → Cloud) (t : Stock)
    (f b : Shown K P) (fresh : IsFresh shown f) (carried : Carries shown cloud_of f b)
    (may_open : StateData → Type 0) (lawful : IsLawful may_open (shown f.keeper))
    (promised : Promises shown faults_of cloud_of b)
    (left left_new holds holds_new : Option (List ℕ)) (reads reads_new writes writes_new : ℕ) (status : Exit)
    (drove : Drove (opening_of cloud_of f) t (shown f.origin.keeper).recalls (streams left holds)
    (streams left_new holds_new) b.state b.entries (line_end (cloud_of b.cloud) b.halt) status)
    (read : status ≡ exit.ReadFault → Rose reads reads_new)
    (write : status ≡ exit.WriteFault → Rose writes writes_new)
    (short : status ≡ exit.Done → (shown b.keeper).is_long ≡ false) where
  -- over the book's own opening
  drove_on : Drove (opening_of cloud_of b) t (shown b.origin.keeper).recalls (streams left holds)
      (streams left_new holds_new) b.state b.entries (line_end (cloud_of b.cloud) b.halt) status
  drove_on =
      subst (λ (o : Opening). Drove o t (shown b.origin.keeper).recalls (streams left holds)
      (streams left_new holds_new) b.state b.entries (line_end (cloud_of b.cloud) b.halt) status)
      (sym (same_opening cloud_of f b carried.same))
      (subst (λ (r : Bool). Drove (opening_of cloud_of f) t r (streams left holds)
      (streams left_new holds_new) b.state b.entries (line_end (cloud_of b.cloud) b.halt) status)
      (sym (ap (λ (o : _). (shown o.keeper).recalls) carried.same.origin)) drove)

  disk_rose : status ≡ exit.DiskFault → Rose (faults_of b.origin.keeper) (faults_of b.keeper)
  disk_rose is =
      subst (λ (h : Option Halt). IsHaltedAs (faults_of b.origin.keeper) (faults_of b.keeper) b.state h)
      ((drive_stops _ _ _ _ _ _ _ _ _ drove_on).0 is) promised.cause

  pub as_driven : HasDriven t (shown b.origin.keeper) (shown b.keeper) (first_scene cloud_of b) (scene_of cloud_of b)
      b.halt (outside left reads holds writes (faults_of b.origin.keeper))
      (outside left_new reads_new holds_new writes_new (faults_of b.keeper)) status
  as_driven = record {
    drove = drove_on;
    read = read;
    write = write;
    disk = disk_rose;
    halts = drive_stops _ _ _ _ _ _ _ _ _ drove_on;
    short = short;
    inside = inside shown cloud_of f b fresh carried may_open lawful;
    calm = calm_end t (shown b.origin.keeper).recalls (first_scene cloud_of b) (scene_of cloud_of b) b.halt
        (outside left reads holds writes (faults_of b.origin.keeper))
        (outside left_new reads_new holds_new writes_new (faults_of b.keeper)) status read write disk_rose
        promised.run.agrees promised.sound drove_on;
    run = promised.run.run;
    agrees = promised.run.agrees;
    trace = promised.run.trace;
    sound = promised.sound;
    headline = λ sound. (promised.headline sound).headline;
  }

-- with the count from before the opening
pub from_before : (t : Stock) (origin keeper : ShownKeeper) (first last : _) (halt : Option Halt)
    (left left_new holds holds_new : Option (List ℕ)) (reads reads_new writes writes_new before faults now : ℕ)
    (status : Exit) → before ≤ faults
    → HasDriven t origin keeper first last halt (outside left reads holds writes faults)
    (outside left_new reads_new holds_new writes_new now) status
    → HasDriven t origin keeper first last halt (outside left reads holds writes before)
    (outside left_new reads_new holds_new writes_new now) status
from_before t origin keeper first last halt left left_new holds holds_new reads reads_new writes writes_new before faults
    now status le it = record {
      drove = it.drove;
      read = it.read;
      write = it.write;
      disk = λ is. rises (it.disk is);
      halts = it.halts;
      short = it.short;
      inside = it.inside;
      calm = λ calm. it.calm (record {
        read = calm.read;
        write = calm.write;
        disk = λ rose. calm.disk (rises rose);
        listed = calm.listed;
        within = calm.within;
        unworn = calm.unworn;
        engines = calm.engines;
        recalled = calm.recalled;
        sound = calm.sound;
      });
      run = it.run;
      agrees = it.agrees;
      trace = it.trace;
      sound = it.sound;
      headline = it.headline;
    } where
      rises : Rose faults now → Rose before now
      rises rose = grind (arith, le, rose)

-- what isn't halted isn't halted for a fault of the disk
pub halted_not : (h : Option Halt) → h ≡ None → h ≡ Some halted.DiskFault → ⊥
halted_not h none some = cc

-- a book opens as it did, over what was found
pub opened_with : {K P : Type 0} (may_open : StateData → Type 0) (shown : K → ShownKeeper) (faults_of : K → ℕ)
    (cloud_of : P → Cloud) (workers : ℕ) (keeper : K) (cloud : P) (f b : Shown K P) → IsSameBook f b
    → HasOpened may_open shown faults_of cloud_of workers keeper cloud f
    → OpensWith may_open workers (shown keeper) (shown b.origin.keeper) (faults_of keeper) (faults_of b.origin.keeper)
    (cloud_of cloud) (cloud_of b.origin.cloud) b.opening
opened_with may_open shown faults_of cloud_of workers keeper cloud f b same has = rw (same.opening, same.origin) (record {
  found = has.found;
  opened = has.opened;
  went = has.went;
})

-- no book was opened, for this
pub unopened_by : {K P : Type 0} (may_open : K → StateData → Type 0) (shown : K → ShownKeeper) (faults_of : K → ℕ)
    (cloud_of : P → Cloud) (workers : ℕ) (old new k : K) (cloud left p : P) (why : Unrestarted) (status : Exit)
    → new ≡ k → left ≡ p
    → IsUnopenedBook (may_open old) workers (shown old) (shown new) (faults_of old) (faults_of new) (cloud_of cloud)
    (cloud_of left) why → status ≡ exit_of why
    → IsUnopened may_open shown faults_of cloud_of (λ n. n ≡ workers) (record { keeper = old; cloud = cloud })
    (record { keeper = k; cloud = p }) status
unopened_by may_open shown faults_of cloud_of workers old new k cloud left p why status same given it is =
    by_opening workers why refl
    (subst (λ (x : _). IsUnopenedBook (may_open old) workers (shown old) (shown x) (faults_of old) (faults_of x)
    (cloud_of cloud) (cloud_of p) why) same
    (subst (λ (x : _). IsUnopenedBook (may_open old) workers (shown old) (shown new) (faults_of old) (faults_of new)
    (cloud_of cloud) (cloud_of x) why) given it)) is

abbrev around : {K P : Type 0} → K → P → Around K P
around keeper cloud = record { keeper = keeper; cloud = cloud }

-- keeper and cloud as they were
pub around_same : {K P : Type 0} (keeper k : K) (cloud p : P) → keeper ≡ k → cloud ≡ p
    → around k p ≡ around keeper cloud
around_same keeper k cloud p same given = rw (same, given) refl

-- so many engines are also what is asked for otherwise
pub asked_more : {K P : Type 0} (may_open : K → StateData → Type 0) (shown : K → ShownKeeper) (faults_of : K → ℕ)
    (cloud_of : P → Cloud) (A B : ℕ → Type 0) (old new : Around K P) (status : Exit) → ((n : ℕ) → A n → B n)
    → IsUnopened may_open shown faults_of cloud_of A old new status
    → IsUnopened may_open shown faults_of cloud_of B old new status
asked_more may_open shown faults_of cloud_of A B old new status more (by_words is same) = by_words is same
asked_more may_open shown faults_of cloud_of A B old new status more (by_memory is same) = by_memory is same
asked_more may_open shown faults_of cloud_of A B old new status more (by_opening workers why asks unopened is) =
    by_opening workers why (more workers asks) unopened is
