-- What a reader of lines holds, and what the next line comes to.
use Rattle.std.specs.Prelude.{◌≡◌, ◌⊎◌, ℕ, ◌+◌, ◌<◌, ◌≤◌, Bool, true, false, List, []}
use Rattle.std.specs.Prelude.{◌∷◌, ◌++◌, length, take, drop, Option, Some}
use Rattle.heat_io.specs.declared.next.Next.{Next}
use Rattle.heat_io.specs.declared.next.Next.TheVariants as next
use Rattle.heat_io.specs.Lines.{cut_lines, length_of_line, behind_line, size_of_line, line_limit, most_read}
use Rattle.heat_io.specs.Lines.{script_limit}

pub record Reader : Type 0 where
  -- the bytes that were taken from the source and not given yet
  pub held : List ℕ
  -- how many bytes of the script were given, with the ends of the lines
  pub given : ℕ
  -- every answer so far was a line
  pub goes_on : Bool

-- The line is the first of what was ahead, and the lines behind it are those of what is ahead now. No
-- limit is passed.
pub record GivesLine (given : ℕ) (bytes line rest : List ℕ) (now : ℕ) : Type 0 where
  pub lines : cut_lines bytes ≡ line ∷ cut_lines rest
  pub behind : rest ≡ behind_line bytes
  pub short : length_of_line bytes ≤ line_limit
  -- no byte is left out of the count
  pub counted : now + length rest ≡ given + length bytes
  pub rises : given < now
  pub within : now ≤ script_limit

-- nothing was given, and nothing is lost
pub record Stays (given : ℕ) (bytes rest : List ℕ) (now : ℕ) : Type 0 where
  pub rest_same : rest ≡ bytes
  pub given_same : now ≡ given

-- What comes of the bytes that are ahead, and which of them are ahead then. The first four cases
-- exclude one another and leave none out.
abbrev pub IsNext : ℕ → List ℕ → Next → List ℕ → ℕ → Type 0
IsNext given bytes (next.Line line) rest now = GivesLine given bytes line rest now
IsNext given bytes next.End rest now = (bytes ≡ []) × Stays given bytes rest now
IsNext given bytes next.LineTooLong rest now = (line_limit < length_of_line bytes) × Stays given bytes rest now
IsNext given bytes next.ScriptTooLong rest now =
    (length_of_line bytes ≤ line_limit) × (script_limit < given + size_of_line bytes) × Stays given bytes rest now
IsNext given bytes next.ReadFault rest now = Stays given bytes rest now
IsNext given bytes next.Memory rest now = Stays given bytes rest now

-- the same over what is ahead in the reader and the source, where the source tells
abbrev pub IsNextOf : ℕ → Option (List ℕ) → Next → Option (List ℕ) → ℕ → Type 0
IsNextOf given old result new now =
    (bytes : List ℕ) → old ≡ Some bytes → (rest : List ℕ) × (new ≡ Some rest) × IsNext given bytes result rest now

-- Lines that were read one after another, from a script of which so many bytes were given before.
pub data Reads (given : ℕ) (bytes : List ℕ) : List (List ℕ) → List ℕ → ℕ → Type 0 where
  begins : (lines : List (List ℕ)) (rest : List ℕ) (now : ℕ) → lines ≡ [] → rest ≡ bytes → now ≡ given
      → Reads given bytes lines rest now
  adds : (before : List (List ℕ)) (ahead : List ℕ) (so_far : ℕ) (line : List ℕ) (lines : List (List ℕ))
      (rest : List ℕ) (now : ℕ)
      → Reads given bytes before ahead so_far → GivesLine so_far ahead line rest now → lines ≡ before ++ line ∷ []
      → Reads given bytes lines rest now

-- an LF is among the bytes
abbrev pub HasEnd : List ℕ → Type 0
HasEnd bytes = length_of_line bytes < length bytes

-- none is
abbrev pub HasNoEnd : List ℕ → Type 0
HasNoEnd bytes = length_of_line bytes ≡ length bytes

-- Bytes are taken behind what is held only up to a line's end: no end stands in front of the last piece
-- that was taken, which is no more than one read takes.
pub data StopsAtEnd (held taken : List ℕ) : Type 0 where
  unread : taken ≡ [] → StopsAtEnd held taken
  read : (before last : List ℕ) → taken ≡ before ++ last → HasNoEnd (held ++ before) → length last ≤ most_read
      → StopsAtEnd held taken

-- behind a line less than one read is held, or a rest of what was
abbrev pub HoldsFew : List ℕ → List ℕ → Type 0
HoldsFew old new = (length new < most_read) ⊎ ((front : List ℕ) × (old ≡ front ++ new))

-- Lines that a reader gave one after another, whatever its source tells, with what it holds and has given
-- behind the last: each was the first of what was held and of what was taken for it.
pub data Gave : List (List ℕ) → List ℕ → ℕ → Type 0 where
  begins : (lines : List (List ℕ)) (held : List ℕ) (given : ℕ) → lines ≡ [] → held ≡ [] → given ≡ 0
      → Gave lines held given
  adds : (before : List (List ℕ)) (mid : List ℕ) (so_far : ℕ) (taken line : List ℕ) (lines : List (List ℕ))
      (held : List ℕ) (given : ℕ)
      → Gave before mid so_far → StopsAtEnd mid taken → GivesLine so_far (mid ++ taken) line held given
      → lines ≡ before ++ line ∷ [] → Gave lines held given

-- They are the first lines of the script, and all of its bytes are counted.
pub record AreLines (given : ℕ) (bytes : List ℕ) (lines : List (List ℕ)) (rest : List ℕ) (now : ℕ) : Type 0 where
  pub lines_are : cut_lines bytes ≡ lines ++ cut_lines rest
  pub counted : now + length rest ≡ given + length bytes

abbrev pub is_line : Next → Bool
is_line (next.Line line) = true
is_line next.End = false
is_line next.LineTooLong = false
is_line next.ScriptTooLong = false
is_line next.ReadFault = false
is_line next.Memory = false

-- A line of len bytes is given, which takes size bytes of the script, or there is no room or memory for it.
abbrev pub IsGiven : ℕ → ℕ → Reader → Reader → Next → Type 0
IsGiven len size old new (next.Line line) =
    (line ≡ take len old.held) × (new.held ≡ drop size old.held) × (new.given ≡ old.given + size)
    × (new.given ≤ script_limit)
IsGiven len size old new next.ScriptTooLong =
    (script_limit < old.given + size) × Stays old.given old.held new.held new.given
IsGiven len size old new next.Memory = Stays old.given old.held new.held new.given
IsGiven len size old new next.End = ⊥
IsGiven len size old new next.LineTooLong = ⊥
IsGiven len size old new next.ReadFault = ⊥
