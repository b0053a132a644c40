-- What stands behind the first word of a line.
use Rattle.std.specs.Prelude.{◌<◌, ◌≤◌, ℕ, List, length}
use Rattle.script_lines.specs.Words.{AreSpaces, BeginsWith, StandsBehindSpaces}

-- one word, and nothing behind it but spaces
pub record IsLone (rest word : List ℕ) : Type 0 where
  pub last : List ℕ
  pub begins : BeginsWith rest word last
  pub alone : AreSpaces last

-- behind spaces a text, which isn't empty and goes on to the end
pub record IsText (rest text : List ℕ) : Type 0 where
  pub behind : StandsBehindSpaces rest text
  pub some : 0 < length text

-- a word, and behind its spaces a text that goes on to the end
pub record IsWordAndText (rest word text : List ℕ) : Type 0 where
  pub more : List ℕ
  pub begins : BeginsWith rest word more
  pub text_behind : IsText more text

-- the turns that a line may ask for
abbrev pub IsCount : ℕ → Type 0
IsCount n = (1 ≤ n) × (n ≤ 1000000)
