-- What was read of a source: the lines that were given, and what is ahead of them.
use Rattle.std.specs.Prelude.{◌≡◌, ◌⊎◌, ◌<◌, ◌≤◌, ◌+◌, ℕ, List, [], ◌++◌, Option, Some, length}
use Rattle.heat_io.specs.Lines.{cut_lines, length_of_line, size_of_line, line_limit, most_read, script_limit}
use Rattle.heat_io.specs.Reading.{Gave, HasNoEnd, Reads}
use Rattle.heat_io.specs.Streams.{ahead}

-- These are the first lines of the script, each within the limits. What is ahead are the others, and all
-- bytes before them, line ends too, are so many.
pub record AreRead (bytes : List ℕ) (lines : List (List ℕ)) (rest : List ℕ) (given : ℕ) : Type 0 where
  pub reads : Reads 0 bytes lines rest given
  pub lines_are : cut_lines bytes ≡ lines ++ cut_lines rest
  pub counted : given + length rest ≡ length bytes

-- the next line passes the line's limit, or with it the script passes its own
abbrev pub PassesLimit : List ℕ → ℕ → Type 0
PassesLimit rest given =
    (line_limit < length_of_line rest)
    ⊎ ((length_of_line rest ≤ line_limit) × (script_limit < given + size_of_line rest))

-- A reader gave these lines, whatever the source tells, and has taken these bytes since; where the source tells its
-- bytes, the lines are its first, and what is held is in front of what is left.
pub record FirstRead (left_old left_new : Option (List ℕ)) (lines : List (List ℕ)) : Type 0 where
  pub behind : List ℕ
  pub given : ℕ
  pub gave : Gave lines behind given
  pub taken : List ℕ
  pub told : (bytes : List ℕ) → left_old ≡ Some bytes
      → (rest : List ℕ) × (ahead (behind ++ taken) left_new ≡ Some rest) × AreRead bytes lines rest given

-- nothing was taken behind the last of them but what one read took with it
pub record JustRead (left_old left_new : Option (List ℕ)) (lines : List (List ℕ)) : Type 0 where
  pub first : FirstRead left_old left_new lines
  pub none : first.taken ≡ []
  pub few : length first.behind < most_read

-- no further line was wholly read
pub record UnendedRead (left_old left_new : Option (List ℕ)) (lines : List (List ℕ)) : Type 0 where
  pub first : FirstRead left_old left_new lines
  pub unended : HasNoEnd (first.behind ++ first.taken)

-- the next line passes a limit, by the bytes that were taken, and by those that the source tells
pub record LimitRead (left_old left_new : Option (List ℕ)) (lines : List (List ℕ)) : Type 0 where
  pub first : FirstRead left_old left_new lines
  pub passes : PassesLimit (first.behind ++ first.taken) first.given
  pub told : (bytes : List ℕ) → left_old ≡ Some bytes
      → (rest : List ℕ) × (given : ℕ) × AreRead bytes lines rest given × PassesLimit rest given

-- nothing is held; where the source tells its bytes, these are its lines, each within the limits, and nothing is left
pub record AllRead (left_old left_new : Option (List ℕ)) (lines : List (List ℕ)) : Type 0 where
  pub first : FirstRead left_old left_new lines
  pub none : first.behind ++ first.taken ≡ []
  pub told : (bytes : List ℕ) → left_old ≡ Some bytes
      → AreRead bytes lines [] (length bytes) × (cut_lines bytes ≡ lines) × (left_new ≡ Some [])

-- the source tells its bytes, and none of its lines passes a limit
pub record StaysWithin (left : Option (List ℕ)) : Type 0 where
  pub bytes : List ℕ
  pub told : left ≡ Some bytes
  pub within : (lines : List (List ℕ)) (rest : List ℕ) (given : ℕ) → AreRead bytes lines rest given
      → ¬ PassesLimit rest given
