-- What the payloads of a journal say: lists of changes, which make a state of nothing.
use Rattle.std.specs.Prelude.{List, [], ℕ, ◌∷◌, ◌≡◌}
use Rattle.core_state.specs.Applies.{AllApply}
use Rattle.core_state.specs.Changes.{applied}
use Rattle.core_state.specs.State.{StateData}
use Rattle.core_state.specs.declared.change.Change.{Change}
use Rattle.row_codec.specs.Changes.{IsSpelling}
use Rattle.state_images.specs.Replays.{IsReplay}

-- each payload is the spelling of its list
abbrev pub AreSpellings : List (List ℕ) → List (List Change) → Type 0
AreSpellings [] [] = Unit {0}
AreSpellings [] (cs ∷ lists) = ⊥
AreSpellings (payload ∷ payloads) [] = ⊥
AreSpellings (payload ∷ payloads) (cs ∷ lists) = IsSpelling payload cs × AreSpellings payloads lists

-- they are spellings of lists that make this state of nothing, one behind another
pub record Give (payloads : List (List ℕ)) (s : StateData) : Type 0 where
  pub lists : List (List Change)
  pub spellings : AreSpellings payloads lists
  pub replay : IsReplay lists s

-- one payload more leads from the one state to the other
pub record Follows (payload : List ℕ) (s t : StateData) : Type 0 where
  pub changes : List Change
  pub spelling : IsSpelling payload changes
  pub applies : AllApply changes s
  pub gives : t ≡ applied changes s
