-- The words that the program is called with.
use Rattle.std.specs.Prelude.{◌≡◌, ◌⊎◌, ℕ, List, ◌∷◌, ◌++◌, [], codes, unwrap_or}
use Rattle.converge_call.specs.declared.setup.Setup.{Setup}
use Rattle.converge_call.specs.declared.setup.Mode.{Mode}
use Rattle.converge_call.specs.declared.setup.Mode.TheVariants.{Drive}
use Rattle.converge_call.specs.Options.{Said, Say, unsaid}

-- the word `--` may stand behind the options, and ends them
abbrev pub EndsWith : List (List ℕ) → List (List ℕ) → Type 0
EndsWith words options = (words ≡ options) ⊎ (words ≡ options ++ codes "--" ∷ [])

-- what is set up: one worker, where their number isn't said
abbrev pub setup_for : Said → Setup
setup_for said = record { workers = unwrap_or said.workers 1; cloud = said.cloud }

-- the words are `drive` and its options, which say this setup
pub record Drives (words : List (List ℕ)) (setup : Setup) : Type 0 where
  pub behind : List (List ℕ)
  pub options : List (List ℕ)
  pub said : Said
  pub first : words ≡ codes "drive" ∷ behind
  pub ended : EndsWith behind options
  pub say : Say options unsaid said
  pub set : setup ≡ setup_for said

-- what is set up in this mode
abbrev pub setup_of : Mode → Setup
setup_of (Drive setup) = setup

-- the words are the form of this mode
abbrev pub IsForm : List (List ℕ) → Mode → Type 0
IsForm words (Drive setup) = Drives words setup
