-- What a part of a line comes to, as what the line does or where it was broken off.
use Rattle.std.proofs.Common.{◌≡◌, inl, ℕ, List, [], ◌∷◌, ◌++◌, Option, refl, sym, ap, ◌∙◌, subst, Result, Ok, Err}
use Rattle.heat_value.specs.declared.path.Step.{Step}
use Rattle.core_state.specs.declared.entry.Entry.{Entry}
use Rattle.core_state.specs.State.{StateData}
use Rattle.core_state.specs.declared.entry.What.{What}
use Rattle.driver.specs.Kept.{Shown}
use Rattle.driver.specs.Quiet.{Page, page}
use Rattle.converge_call.specs.declared.exit.Exit.{Exit}
use Rattle.converge_call.specs.declared.exit.Exit.TheVariants as exit
use Rattle.converge_call.specs.Notes.{by_main, refused_at, Notes, IsNothing, IsUndone, IsUnkept, HasDone, did, broke}

pub append-none : {A : Type 0} (xs : List A) → xs ++ [] ≡ xs
append-none [] = refl
append-none (x ∷ xs) = ap (λ rest. x ∷ rest) (append-none xs)

-- the same, under what follows from it
module _ (D E : StateData → StateData → List Entry → Type 0) (B C : StateData → StateData → List Entry → Exit → Type 0)
    (old new : Page) (result : Result (Unit {0}) Exit) where
  pub done_as : ((es : List Entry) → D old.state new.state es → E old.state new.state es)
      → ((es : List Entry) (why : Exit) → B old.state new.state es why → C old.state new.state es why)
      → HasDone D B old new result → HasDone E C old new result
  done_as done broken (did es d is ends) = did es (done es d) is ends
  done_as done broken (broke es why b is ends) = broke es why (broken es why b) is ends

-- the same, but for what was done
pub does_as : (D E : StateData → StateData → List Entry → Type 0) (old new : Page) (result : Result (Unit {0}) Exit)
    → ((es : List Entry) → D old.state new.state es → E old.state new.state es) → HasDone D IsUndone old new result
    → HasDone E IsUndone old new result
does_as D E old new result done it = done_as D E IsUndone IsUndone old new result done (λ es why un. un) it

-- there was no memory, and nothing was done
pub nothing_done : (D : StateData → StateData → List Entry → Type 0) (old new : Page) (result : Result (Unit {0}) Exit)
    → new ≡ old → result ≡ Err exit.Memory → HasDone D IsUndone old new result
nothing_done D old new result same is =
    broke [] exit.Memory (record { state = ap (λ (p : Page). p.state) same; none = refl; memory = refl })
    (ap (λ (p : Page). p.entries) same ∙ sym (append-none old.entries)) is

-- there was nothing to do
pub nothing_to_do : (old new : Page) (result : Result (Unit {0}) Exit) → new ≡ old → result ≡ Ok tt
    → HasDone IsNothing IsUndone old new result
nothing_to_do old new result same is =
    did [] (record { state = ap (λ (p : Page). p.state) same; none = refl })
    (ap (λ (p : Page). p.entries) same ∙ sym (append-none old.entries)) is

-- the same note, by other names of its code and place
pub noted_as : (number : ℕ) (code its : List ℕ) (path place : Option (List Step)) (old new : Page)
    (result : Result (Unit {0}) Exit)
    → code ≡ its → path ≡ place → HasDone (Notes (refused_at number code path)) IsUndone old new result
    → HasDone (Notes (refused_at number its place)) IsUndone old new result
noted_as number code its path place old new result same there note =
    subst (λ (p : Option (List Step)). HasDone (Notes (refused_at number its p)) IsUndone old new result) there
    (subst (λ (c : List ℕ). HasDone (Notes (refused_at number c path)) IsUndone old new result) same note)

-- over another page that is the same
pub done_on : (D : StateData → StateData → List Entry → Type 0) (old mid new : Page)
    (result : Result (Unit {0}) Exit) → mid ≡ old
    → HasDone D IsUndone mid new result → HasDone D IsUndone old new result
done_on D old mid new result same it = subst (λ (p : Page). HasDone D IsUndone p new result) same it

-- the same, whatever broke it off
pub done_over : (D : StateData → StateData → List Entry → Type 0)
    (B : StateData → StateData → List Entry → Exit → Type 0) (old mid new : Page) (result : Result (Unit {0}) Exit)
    → mid ≡ old → HasDone D B mid new result → HasDone D B old new result
done_over D B old mid new result same it = subst (λ (p : Page). HasDone D B p new result) same it

-- want of memory, where a fault of the keeper could have come too
pub undone_unkept : (old new : StateData) (es : List Entry) (why : Exit) → IsUndone old new es why
    → IsUnkept old new es why
undone_unkept old new es why un = record { state = un.state; none = un.none; cause = inl un.memory }

-- a note in the place of a step
pub noted_unkept : (D E : StateData → StateData → List Entry → Type 0) (old new : Page)
    (result : Result (Unit {0}) Exit)
    → ((es : List Entry) → D old.state new.state es → E old.state new.state es) → HasDone D IsUndone old new result
    → HasDone E IsUnkept old new result
noted_unkept D E old new result done it = done_as D E IsUndone IsUnkept old new result done
    (undone_unkept old.state new.state) it

-- the same step by another name
pub keeps_as : (D E : StateData → StateData → List Entry → Type 0) (old new : Page) (result : Result (Unit {0}) Exit)
    → ((es : List Entry) → D old.state new.state es → E old.state new.state es) → HasDone D IsUnkept old new result
    → HasDone E IsUnkept old new result
keeps_as D E old new result done it = done_as D E IsUnkept IsUnkept old new result done (λ es why un. un) it

-- a note of the book, or none
module _ {K P : Type 0} (old new : Shown K P) where
  pub note_made : (it : What) → new ≡ record old { entries = old.entries ++ by_main it ∷ [] }
      → HasDone (Notes it) IsUndone (page old.state old.entries) (page new.state new.entries) (Ok tt)
  note_made it is =
      did (by_main it ∷ []) (record { state = ap (λ (b : Shown K P). b.state) is; note = refl })
      (ap (λ (b : Shown K P). b.entries) is) refl

  pub note_not_made : (it : What) → new ≡ old
      → HasDone (Notes it) IsUndone (page old.state old.entries) (page new.state new.entries) (Err exit.Memory)
  note_not_made it is = nothing_done (Notes it) (page old.state old.entries) (page new.state new.entries)
      (Err exit.Memory) (ap (λ (b : Shown K P). page b.state b.entries) is) refl

  -- nothing but the history has changed
  abbrev pub GrowsAlone : Type 0
  GrowsAlone = new ≡ record old { entries = new.entries }

  pub grows_alone : (es : List Entry) → new ≡ record old { entries = es } → GrowsAlone
  grows_alone es is =
      is ∙ ap (λ (xs : List Entry). record old { entries = xs }) (sym (ap (λ (b : Shown K P). b.entries) is))

  pub grows_not : new ≡ old → GrowsAlone
  grows_not is = is ∙ ap (λ (xs : List Entry). record old { entries = xs }) (sym (ap (λ (b : Shown K P). b.entries) is))
