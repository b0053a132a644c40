-- A book that isn't halted, and one that is.
use Rattle.std.proofs.Common.{List, Option, ap, false, refl, subst, sym, true, ℕ, ◌≡◌}
use Rattle.std.specs.Prelude.{None, Some, is_some, ◌≢◌}
use Rattle.provider.specs.Cloud.{Cloud}
use Rattle.core_state.specs.State.{StateData}
use Rattle.core_state.specs.declared.entry.Entry.{Entry}
use Rattle.check_steps.specs.declared.looks.Work.{Work}
use Rattle.record_keeper.specs.Shown.{ShownKeeper}
use Rattle.book.specs.Commits.{Commits}
use Rattle.book.specs.Commits as commits
use Rattle.book.specs.Crashes.{IsLeft}
use Rattle.book.specs.Halts.{IsForeignCause, first_cause}
use Rattle.book.specs.Kept.{IsHeld, IsKept, Origin, Shown}
use Rattle.book.specs.Scenes.{Scene}
use Rattle.book.specs.Turned.{Turned}
use Rattle.book.specs.Turned as turned
use Rattle.book.specs.declared.halting.Halt.{Halt}
use Rattle.book.specs.declared.turning.Turn.TheVariants.{Memory}
use Rattle.book.proofs.Fences.{unmade_at}
use Rattle.book.proofs.Growing.{stays, unasked}

pub unhalted : (h : Option Halt) → is_some h ≡ false → h ≡ None
unhalted None none = refl
unhalted (Some why) none = cc

pub is_halted : (h : Option Halt) → is_some h ≡ true → h ≢ None
is_halted None some is = cc
is_halted (Some why) some is = cc

-- what is kept of a book that isn't halted
pub kept_unhalted : (first : StateData) (origin : Cloud) (s : StateData) (es : List Entry) (c : Cloud) (h : Option Halt)
    → is_some h ≡ false → IsKept first origin s es c h → IsKept first origin s es c None
kept_unhalted first origin s es c h none kept =
    subst (λ (x : Option Halt). IsKept first origin s es c x) (unhalted h none) kept

pub held_unhalted : (origin keeper : ShownKeeper) (before now : ℕ) (s : StateData) (h : Option Halt)
    → is_some h ≡ false → IsHeld origin keeper before now s h → IsHeld origin keeper before now s None
held_unhalted origin keeper before now s h none held =
    subst (λ (x : Option Halt). IsHeld origin keeper before now s x) (unhalted h none) held

pub left_unhalted : (first : StateData) (origin : Cloud) (opened keeper : ShownKeeper) (s : StateData)
    (es : List Entry) (c : Cloud) (h : Option Halt) → is_some h ≡ false → IsLeft first origin opened keeper s es c h
    → IsLeft first origin opened keeper s es c None
left_unhalted first origin opened keeper s es c h none was =
    subst (λ (x : Option Halt). IsLeft first origin opened keeper s es c x) (unhalted h none) was

pub left_again : (first : StateData) (origin : Cloud) (opened keeper : ShownKeeper) (s : StateData)
    (es : List Entry) (c : Cloud) (h : Option Halt) → is_some h ≡ false
    → IsLeft first origin opened keeper s es c None → IsLeft first origin opened keeper s es c h
left_again first origin opened keeper s es c h none was =
    subst (λ (x : Option Halt). IsLeft first origin opened keeper s es c x) (sym (unhalted h none)) was

-- a turn and a commit that aren't made
pub no_turn : (e : ℕ) (x : Scene) → Turned e x x Memory
no_turn e x = turned.unmade refl (unmade_at x)

pub no_commit : (e : ℕ) (w : Work) (x : Scene) → Commits e w x x Memory
no_commit e w x = commits.unmade refl (unmade_at x)

-- the first cause stays
pub first_kept : (h : Option Halt) (why : Halt) → is_some h ≡ true → h ≡ first_cause h why
first_kept None why some = cc
first_kept (Some first) why some = refl

pub first_made : (h : Option Halt) (why : Halt) → is_some h ≡ false → Some why ≡ first_cause h why
first_made None why none = refl
first_made (Some first) why none = cc

abbrev shown_as : {K P : Type 0} → StateData → StateData → List Entry → K → P → Origin K P → Option Halt → Shown K P
shown_as opening state es keeper cloud origin h = record {
  opening = opening;
  state = state;
  entries = es;
  keeper = keeper;
  cloud = cloud;
  origin = origin;
  halt = h;
}

-- so a book that is halted stays as it is, and another shows the cause
pub halted_still : {K P : Type 0} (b : Shown K P) (h : Option Halt) → b.halt ≡ h
    → ◌≡◌ {A = Shown K P} b (record b { halt = h })
halted_still {K} {P} b h same = ap (λ (x : Option Halt). record b { halt = x }) same

pub halted_as : {K P : Type 0} (opening state : StateData) (es : List Entry) (keeper : K) (cloud : P)
    (origin : Origin K P) (h i : Option Halt) → h ≡ i
    → ◌≡◌ {A = Shown K P} (shown_as opening state es keeper cloud origin h)
    (shown_as opening state es keeper cloud origin i)
halted_as {K} {P} opening state es keeper cloud origin h i same =
    ap (λ (x : Option Halt). shown_as opening state es keeper cloud origin x) same

-- a book that is halted from outside keeps what it kept
pub kept_outside : (first : StateData) (origin : Cloud) (s : StateData) (es : List Entry) (c : Cloud) (h i : Option Halt)
    → is_some h ≡ false → IsKept first origin s es c h → IsKept first origin s es c i
kept_outside first origin s es c h i none kept =
    stays first origin s s es es c c i (kept_unhalted first origin s es c h none kept) refl refl (unasked c)

pub halt_again : (first : StateData) (origin : Cloud) (s : StateData) (es : List Entry) (c : Cloud) (h : Option Halt)
    → is_some h ≡ false → IsKept first origin s es c None → IsKept first origin s es c h
halt_again first origin s es c h none kept =
    subst (λ (x : Option Halt). IsKept first origin s es c x) (sym (unhalted h none)) kept

pub held_outside : (origin keeper : ShownKeeper) (before now : ℕ) (s : StateData) (h : Option Halt) (why : Halt)
    → is_some h ≡ false → IsForeignCause why → IsHeld origin keeper before now s h
    → IsHeld origin keeper before now s (Some why)
held_outside origin keeper before now s h why none outside held =
    let free = held_unhalted origin keeper before now s h none held in record {
      goes_on = free.goes_on;
      stands = λ ne. free.stands (λ is. cc);
      young = λ ne. free.young (λ is. cc);
    }
