-- The options that the program may be called with.
use Rattle.std.specs.Prelude.{◌≡◌, ◌≢◌, ◌⊎◌, ◌≤◌, ◌<◌, ℕ, List, [], ◌∷◌, ◌++◌, Option, None, Some, codes, decimal}
use Rattle.std.specs.Prelude.{length, slice_index}

-- an option's value stands behind its name, in a word of its own or behind `=` in the same; then come the rest
abbrev pub HasOption : List ℕ → List ℕ → List (List ℕ) → List (List ℕ) → Type 0
HasOption name value rest words = (words ≡ name ∷ value ∷ rest) ⊎ (words ≡ (name ++ 61 ∷ value) ∷ rest)

-- how many engines may be asked for
abbrev pub most_workers : ℕ
most_workers = 64

-- a number of engines in decimal, without sign or leading zero
pub record IsCount (word : List ℕ) (n : ℕ) : Type 0 where
  pub some : 1 ≤ n
  pub few : n ≤ most_workers
  pub digits : decimal n ≡ word

-- a path: it doesn't begin with `-`
pub record IsPath (word : List ℕ) : Type 0 where
  pub some : 0 < length word
  pub front : slice_index word 0 ≢ 45

-- what options say
pub record Said : Type 0 where
  pub workers : Option ℕ
  pub cloud : Option (List ℕ)

abbrev pub unsaid : Said
unsaid = record { workers = None; cloud = None }

-- a number of workers is said too, which wasn't before
pub record IsWithWorkers (digits : List ℕ) (before after : Said) : Type 0 where
  pub count : ℕ
  pub is_count : IsCount digits count
  pub unsaid : before.workers ≡ None
  pub said : after ≡ record before { workers = Some count }

-- a cloud file is said too, which wasn't before
pub record IsWithCloud (path : List ℕ) (before after : Said) : Type 0 where
  pub is_path : IsPath path
  pub unsaid : before.cloud ≡ None
  pub said : after ≡ record before { cloud = Some path }

-- what one option says, with the rest behind it
pub data Says (options rest : List (List ℕ)) (before after : Said) : Type 0 where
  workers : (digits : List ℕ) → HasOption (codes "--workers") digits rest options
      → IsWithWorkers digits before after → Says options rest before after
  cloud : (path : List ℕ) → HasOption (codes "--cloud") path rest options
      → IsWithCloud path before after → Says options rest before after

-- what options say, one behind another
pub data Say : List (List ℕ) → Said → Said → Type 0 where
  nothing : (options : List (List ℕ)) (before after : Said) → options ≡ [] → after ≡ before → Say options before after
  further : (options rest : List (List ℕ)) (before mid after : Said) → Says options rest before mid
      → Say rest mid after → Say options before after
