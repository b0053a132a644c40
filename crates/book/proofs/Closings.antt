-- Whether the input was closed, as a history goes on.
use Rattle.std.proofs.Common.{List, [], false, refl, subst, sym, true, ℕ, ◌++◌, ◌∷◌, ◌≡◌, ◌≤◌}
use Rattle.std.proofs.lemmas.List.Elements.{Contains-append_right}
use Rattle.std.specs.Prelude.{Bool, IsTrue, ◌↔◌}
use Rattle.core_state.specs.declared.entry.Entry.{Entry}
use Rattle.core_state.specs.declared.entry.What.TheVariants as what
use Rattle.next_laws.proofs.Listings.{in_head, no_member}
use Rattle.step_relation.specs.Runs.{IsClosed}

pub now_closed : (h : List Entry) (e : Entry) → e.what ≡ what.Closed → IsClosed (h ++ e ∷ [])
now_closed h e is = record { entry = e; among = Contains-append_right h (e ∷ []) e (in_head [] e); closes = is }

-- nothing was told
pub never_closed : ¬ IsClosed []
never_closed it = no_member it.entry it.among

-- what a history keeps of its flag and its room
abbrev pub IsMarked : Bool → List Entry → ℕ → Type 0
IsMarked closed h spare = (IsTrue closed ↔ IsClosed h) × (closed ≡ false → 1 ≤ spare)

pub marked_new : (h : List Entry) (spare : ℕ) → h ≡ [] → 1 ≤ spare → IsMarked false h spare
marked_new h spare is room =
    ((λ yes_. cc, λ closed_. absurd (never_closed (subst IsClosed is closed_))), λ open_. room)

pub marked_closed : (h i : List Entry) (e : Entry) (spare : ℕ) → e.what ≡ what.Closed → i ≡ h ++ e ∷ []
    → IsMarked true i spare
marked_closed h i e spare closes is =
    ((λ yes_. subst IsClosed (sym is) (now_closed h e closes), λ closed_. refl), λ open_. cc)
