-- What the lines come to that show something of a stack.
use Rattle.std.proofs.Common.{◌≡◌, ℕ, true, false, List, Option, Some, None, refl, sym, ◌∙◌, Result}
use Rattle.std.specs.Prelude.{codes, IsSome, is_some, option_map}
use Rattle.heat_plan.specs.declared.phase.Status.{Status}
use Rattle.heat_plan.specs.declared.phase.Status.TheVariants.{Complete}
use Rattle.core_state.specs.declared.stack.Stack.{Stack}
use Rattle.core_state.specs.declared.entry.ShowWhat.{ShowWhat}
use Rattle.core_state.specs.declared.entry.ShowWhat.TheVariants as show
use Rattle.core_state.specs.declared.entry.What.TheVariants as what
use Rattle.core_state.specs.State.{stack_at}
use Rattle.driver.specs.Quiet.{Page}
use Rattle.converge_call.specs.declared.exit.Exit.{Exit}
use Rattle.converge_call.specs.Notes.{refused, Notes, IsUndone, HasDone}
use Rattle.converge_call.specs.Shows.{ShowDoes, OutputsDoes}
use Rattle.converge_call.specs.Shows as shows
use Rattle.converge_call.proofs.Noting.{does_as}

abbrev pub status_in : Option Stack → Option Status
status_in found = option_map (λ (st : Stack). st.status) found

module _ (number : ℕ) (name : List ℕ) (old new : Page) (result : Result (Unit {0}) Exit) where
  pub shown_of : (it : ShowWhat) (found : Option Stack) → stack_at old.state.stacks name ≡ found → IsSome found
      → HasDone (Notes (what.Show it name)) IsUndone old new result
      → HasDone (ShowDoes number it name) IsUndone old new result
  shown_of it None is some note = cc
  shown_of it (Some there) is some note = does_as _ _ old new result (λ es noted. shows.shown there is noted) note

  pub unshown_of : (it : ShowWhat) → stack_at old.state.stacks name ≡ None
      → HasDone (Notes (refused number (codes "E11"))) IsUndone old new result
      → HasDone (ShowDoes number it name) IsUndone old new result
  unshown_of it none note = does_as _ _ old new result (λ es noted. shows.unknown none noted) note

  pub settled_of : (found : Option Stack) (status : Status) → stack_at old.state.stacks name ≡ found
      → Some status ≡ status_in found → status ≡ Complete
      → HasDone (Notes (what.Show show.Outputs name)) IsUndone old new result
      → HasDone (OutputsDoes number name) IsUndone old new result
  settled_of None status is its complete note = cc
  settled_of (Some there) status is its complete note =
      let same : there.status ≡ Complete = cc in
      does_as _ _ old new result (λ es noted. shows.settled there is same noted) note

  pub unsettled_of : (found : Option Stack) (status : Status) → stack_at old.state.stacks name ≡ found
      → Some status ≡ status_in found → ¬ (status ≡ Complete)
      → HasDone (Notes (refused number (codes "E18"))) IsUndone old new result
      → HasDone (OutputsDoes number name) IsUndone old new result
  unsettled_of None status is its other note = cc
  unsettled_of (Some there) status is its other note =
      let same : there.status ≡ status = cc in
      does_as _ _ old new result
      (λ es noted. shows.unsettled there is (λ complete. other (sym same ∙ complete)) noted) note

  pub absent_of : (found : Option Stack) → stack_at old.state.stacks name ≡ found → None ≡ status_in found
      → HasDone (Notes (refused number (codes "E11"))) IsUndone old new result
      → HasDone (OutputsDoes number name) IsUndone old new result
  absent_of None is its note = does_as _ _ old new result (λ es noted. shows.absent is noted) note
  absent_of (Some there) is its note = cc

pub some_mapped : {A B : Type 0} (f : A → B) (x : Option A) → is_some x ≡ true → IsSome (option_map f x)
some_mapped f None h = cc
some_mapped f (Some a) h = refl

pub none_mapped : {A B : Type 0} (f : A → B) (x : Option A) → is_some x ≡ false → option_map f x ≡ None
none_mapped f None h = refl
none_mapped f (Some a) h = cc
