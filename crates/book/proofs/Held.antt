-- The keeper of a book, through its calls.
use Rattle.std.proofs.Common.{ap, arith, refl, subst, sym, ◌∙◌, ◌≡◌, ℕ}
use Rattle.std.specs.Prelude.{Err, List, None, Ok, Option, Result, Some, ◌≢◌, ◌≤◌}
use Rattle.heat_value.specs.Counts.{Rose}
use Rattle.heat_plan.specs.declared.refusal.Refusal.{Refusal}
use Rattle.heat_plan.specs.declared.refusal.Refusal.TheVariants as refusal
use Rattle.core_state.specs.State.{StateData}
use Rattle.core_state.specs.declared.change.Change.{Change}
use Rattle.record_keeper.specs.Calls.{GoesOn}
use Rattle.record_keeper.specs.Shown.{ShownKeeper}
use Rattle.book.specs.Halting.{halt_after, halt_by, halt_for}
use Rattle.book.specs.Halts.{Halts, IsHaltedAs}
use Rattle.book.specs.Keeping.{IsReady, KeptBy}
use Rattle.book.specs.Kept.{IsHeld, Shown}
use Rattle.book.specs.declared.halting.Halt.{Halt}
use Rattle.book.specs.declared.halting.Halt.TheVariants as halt
use Rattle.book.specs.declared.turning.Turn.TheVariants as turn
use Rattle.book.specs.declared.turning.Turn.{Turn}

-- a count that rose later rose since before
pub rose_since : (first mid last : ℕ) → first ≤ mid → Rose mid last → Rose first last
rose_since first mid last le rose = omega (arith, le, rose)

-- a call in the middle of what goes on
pub goes_then : (a b c : ShownKeeper) (first mid last : ℕ) → GoesOn a b first mid → GoesOn b c mid last
    → GoesOn a c first last
goes_then a b c first mid last one two = record {
  tells = two.tells ∙ one.tells;
  recalls = two.recalls ∙ one.recalls;
  later = let le = one.later in let more = two.later in omega (arith, le, more);
}

module _ (origin : ShownKeeper) (first : ℕ) where
  -- a book that isn't halted may have a step kept
  pub held_ready : (k : ShownKeeper) (now : ℕ) (s : StateData) → IsHeld origin k first now s None → IsReady k s
  held_ready k now s held = record { stands = held.stands (λ is. cc); young = held.young (λ is. cc) }

  -- behind a step
  pub held_on : (k l : ShownKeeper) (mid now : ℕ) (s t : StateData) (cs : List Change) (failed : Type 0)
      (h : Option Halt) → IsHeld origin k first mid s None → KeptBy k l mid now s t cs failed
      → (h ≢ Some halt.DiskFault → ¬ failed) → IsHeld origin l first now t h
  held_on k l mid now s t cs failed h held kept fine = record {
    goes_on = goes_then origin k l first mid now held.goes_on kept.keeps.goes_on;
    stands = λ ne. (kept.ready (fine ne)).stands;
    young = λ ne. (kept.ready (fine ne)).young;
  }

-- only a fault of the keeper halts by a turn, and by a step
pub fine_turn : (r : Turn) → halt_by r ≢ Some halt.DiskFault → r ≢ turn.DiskFault
fine_turn turn.Stepped ne is = cc
fine_turn turn.Idle ne is = cc
fine_turn turn.Lost ne is = cc
fine_turn turn.Worn ne is = cc
fine_turn turn.DiskFault ne is = ne refl
fine_turn turn.Memory ne is = cc

fine_refusal : (r : Refusal) → halt_for r ≢ Some halt.DiskFault → r ≢ refusal.DiskFault
fine_refusal r ne is = ne (subst (λ (x : Refusal). halt_for x ≡ Some halt.DiskFault) (sym is) refl)

err_is : {A : Type 0} (a b : Refusal) → ◌≡◌ {A = Result A Refusal} (Err a) (Err b) → a ≡ b
err_is a b is = cc

pub fine_step : {A : Type 0} (r : Result A Refusal) → halt_after r ≢ Some halt.DiskFault → r ≢ Err refusal.DiskFault
fine_step (Ok a) ne is = cc
fine_step (Err e) ne is = fine_refusal e ne (err_is e refusal.DiskFault is)

module _ (first now : ℕ) (s : StateData) where
  pub turn_halts : (r : Turn) → (r ≡ turn.DiskFault → Rose first now) → IsHaltedAs first now s (halt_by r)
  turn_halts turn.Stepped rose = tt
  turn_halts turn.Idle rose = tt
  turn_halts turn.Lost rose = tt
  turn_halts turn.Worn rose = tt
  turn_halts turn.DiskFault rose = rose refl
  turn_halts turn.Memory rose = tt

  refusal_halts : (r : Refusal) → (r ≡ refusal.DiskFault → Rose first now) → IsHaltedAs first now s (halt_for r)
  refusal_halts refusal.StackExists rose = tt
  refusal_halts refusal.NoStack rose = tt
  refusal_halts refusal.Deleting rose = tt
  refusal_halts refusal.TooManyStacks rose = tt
  refusal_halts refusal.TooManyRows rose = tt
  refusal_halts refusal.Worn rose = tt
  refusal_halts refusal.NoEngine rose = tt
  refusal_halts refusal.TooManyEngines rose = tt
  refusal_halts refusal.NotRunning rose = tt
  refusal_halts refusal.DiskFault rose = rose refl
  refusal_halts refusal.Memory rose = tt

  pub step_halts : {A : Type 0} (r : Result A Refusal) → (r ≡ Err refusal.DiskFault → Rose first now)
      → IsHaltedAs first now s (halt_after r)
  step_halts (Ok a) rose = tt
  step_halts {A} (Err e) rose = refusal_halts e (λ is. rose (ap_err e refusal.DiskFault is)) where
    ap_err : (a b : Refusal) → a ≡ b → ◌≡◌ {A = Result A Refusal} (Err a) (Err b)
    ap_err a b is = rw is refl

-- and what it halts with
pub turn_fault : (r : Turn) → r ≡ turn.DiskFault → halt_by r ≡ Some halt.DiskFault
turn_fault r is = subst (λ (x : Turn). halt_by x ≡ Some halt.DiskFault) (sym is) refl

pub turn_fine : (r : Turn) → r ≢ turn.DiskFault → halt_by r ≡ None
turn_fine turn.Stepped ne = refl
turn_fine turn.Idle ne = refl
turn_fine turn.Lost ne = refl
turn_fine turn.Worn ne = refl
turn_fine turn.DiskFault ne = absurd (ne refl)
turn_fine turn.Memory ne = refl

refusal_fine : (r : Refusal) → r ≢ refusal.DiskFault → halt_for r ≡ None
refusal_fine refusal.StackExists ne = refl
refusal_fine refusal.NoStack ne = refl
refusal_fine refusal.Deleting ne = refl
refusal_fine refusal.TooManyStacks ne = refl
refusal_fine refusal.TooManyRows ne = refl
refusal_fine refusal.Worn ne = refl
refusal_fine refusal.NoEngine ne = refl
refusal_fine refusal.TooManyEngines ne = refl
refusal_fine refusal.NotRunning ne = refl
refusal_fine refusal.DiskFault ne = absurd (ne refl)
refusal_fine refusal.Memory ne = refl

pub step_fault : {A : Type 0} (r : Result A Refusal) → r ≡ Err refusal.DiskFault → halt_after r ≡ Some halt.DiskFault
step_fault {A} r is = subst (λ (x : Result A Refusal). halt_after x ≡ Some halt.DiskFault) (sym is) refl

pub step_fine : {A : Type 0} (r : Result A Refusal) → r ≢ Err refusal.DiskFault → halt_after r ≡ None
step_fine (Ok a) ne = refl
step_fine {A} (Err e) ne = refusal_fine e (λ is. ne (ap_err e refusal.DiskFault is)) where
  ap_err : (a b : Refusal) → a ≡ b → ◌≡◌ {A = Result A Refusal} (Err a) (Err b)
  ap_err a b is = rw is refl

-- what is kept of the keeper through a turn and through a step, by what they answer
module _ (origin : ShownKeeper) (first : ℕ) (k l : ShownKeeper) (mid now : ℕ) (s t : StateData) (cs : List Change)
    (h : Option Halt) (held : IsHeld origin k first mid s None) where
  pub turned_held : (r : Turn) → h ≡ halt_by r → KeptBy k l mid now s t cs (r ≡ turn.DiskFault)
      → IsHeld origin l first now t h × IsHaltedAs first now t h
  turned_held r is kept = (
    held_on origin first k l mid now s t cs (r ≡ turn.DiskFault) h held kept
        (λ ne. fine_turn r (λ same. ne (is ∙ same))),
    subst (λ (x : Option Halt). IsHaltedAs first now t x) (sym is)
        (turn_halts first now t r (λ f. rose_since first mid now held.goes_on.later (kept.rose f))),
  )

  pub stepped_held : {A : Type 0} (r : Result A Refusal) → h ≡ halt_after r
      → KeptBy k l mid now s t cs (r ≡ Err refusal.DiskFault)
      → IsHeld origin l first now t h × IsHaltedAs first now t h
  stepped_held r is kept = (
    held_on origin first k l mid now s t cs (r ≡ Err refusal.DiskFault) h held kept
        (λ ne. fine_step r (λ same. ne (is ∙ same))),
    subst (λ (x : Option Halt). IsHaltedAs first now t x) (sym is)
        (step_halts first now t r (λ f. rose_since first mid now held.goes_on.later (kept.rose f))),
  )

-- and why it is halted
module _ {K P : Type 0} (faults_of : K → ℕ) (old new : Shown K P) (none : old.halt ≡ None) (k l : ShownKeeper)
    (s t : StateData) (cs : List Change) where
  pub turned_halts : (r : Turn) → new.halt ≡ halt_by r
      → KeptBy k l (faults_of old.keeper) (faults_of new.keeper) s t cs (r ≡ turn.DiskFault)
      → Halts faults_of turn.DiskFault old new r
  turned_halts r is kept = record {
    later = kept.keeps.goes_on.later;
    faulted = λ f. record { rose = kept.rose f; halted = is ∙ turn_fault r f };
    same = λ ne. is ∙ turn_fine r ne ∙ sym none;
  }

  pub stepped_halts : {A : Type 0} (r : Result A Refusal) → new.halt ≡ halt_after r
      → KeptBy k l (faults_of old.keeper) (faults_of new.keeper) s t cs (r ≡ Err refusal.DiskFault)
      → Halts faults_of (Err refusal.DiskFault) old new r
  stepped_halts r is kept = record {
    later = kept.keeps.goes_on.later;
    faulted = λ f. record { rose = kept.rose f; halted = is ∙ step_fault r f };
    same = λ ne. is ∙ step_fine r ne ∙ sym none;
  }

-- the keeper with which a book begins
pub held_at_first : (origin k : ShownKeeper) (before now : ℕ) (s : StateData) → origin ≡ k → before ≡ now → IsReady k s
    → IsHeld origin k before now s None
held_at_first origin k before now s same count ready = record {
  goes_on = record {
    tells = ap (λ (x : ShownKeeper). x.tells) (sym same);
    recalls = ap (λ (x : ShownKeeper). x.recalls) (sym same);
    later = omega (arith, count);
  };
  stands = λ ne. ready.stands;
  young = λ ne. ready.young;
}
