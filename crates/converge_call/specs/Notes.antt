-- What a line notes, and what doing something comes to.
use Rattle.std.specs.Prelude.{◌≡◌, ◌⊎◌, ℕ, List, [], ◌∷◌, ◌++◌, Option, None, Result, Ok, Err}
use Rattle.heat_value.specs.declared.path.Step.{Step}
use Rattle.core_state.specs.declared.entry.Actor.TheVariants.{Main}
use Rattle.core_state.specs.declared.entry.Entry.{Entry}
use Rattle.core_state.specs.declared.entry.What.{What}
use Rattle.core_state.specs.declared.entry.What.TheVariants as what
use Rattle.core_state.specs.State.{StateData}
use Rattle.driver.specs.Quiet.{Page}
use Rattle.converge_call.specs.declared.exit.Exit.{Exit}
use Rattle.converge_call.specs.declared.exit.Exit.TheVariants as exit

-- an entry of the reader of commands
abbrev pub by_main : What → Entry
by_main it = record { by = Main; what = it }

-- the line of this number was refused with this code, for what stands at this place
abbrev pub refused_at : ℕ → List ℕ → Option (List Step) → What
refused_at number code path = what.Note number code path

-- the line of this number was refused with this code
abbrev pub refused : ℕ → List ℕ → What
refused number code = refused_at number code None

-- one entry more, and nothing else
pub record Notes (it : What) (old new : StateData) (es : List Entry) : Type 0 where
  pub state : new ≡ old
  pub note : es ≡ by_main it ∷ []

-- nothing was done
pub record IsNothing (old new : StateData) (es : List Entry) : Type 0 where
  pub state : new ≡ old
  pub none : es ≡ []

-- there was no memory, and nothing was done
pub record IsUndone (old new : StateData) (es : List Entry) (why : Exit) : Type 0 where
  pub state : new ≡ old
  pub none : es ≡ []
  pub memory : why ≡ exit.Memory

-- there was no memory, or the keeper failed to keep a step, and nothing was done
pub record IsUnkept (old new : StateData) (es : List Entry) (why : Exit) : Type 0 where
  pub state : new ≡ old
  pub none : es ≡ []
  pub cause : (why ≡ exit.Memory) ⊎ (why ≡ exit.DiskFault)

-- Something was done to state and history as Does says, or broken off as Breaks says.
pub data HasDone (Does : StateData → StateData → List Entry → Type 0)
    (Breaks : StateData → StateData → List Entry → Exit → Type 0)
    (old new : Page) (result : Result (Unit {0}) Exit) : Type 0 where
  did : (es : List Entry) → Does old.state new.state es → new.entries ≡ old.entries ++ es → result ≡ Ok tt
      → HasDone Does Breaks old new result
  broke : (es : List Entry) (why : Exit) → Breaks old.state new.state es why → new.entries ≡ old.entries ++ es
      → result ≡ Err why → HasDone Does Breaks old new result
