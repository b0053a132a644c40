-- How long a result may be.
use Rattle.std.specs.Prelude.{◌≤◌, ◌<◌, ℕ, List, length}
use Rattle.heat_value.specs.Compact.{compact}
use Rattle.heat_value.specs.Data.{Data}

-- its compact JSON has at most so many bytes
abbrev pub FitsWithin : ℕ → Data → Type 0
FitsWithin limit d = length (compact d) ≤ limit

-- its compact JSON has more
abbrev pub IsLongerThan : ℕ → Data → Type 0
IsLongerThan limit d = limit < length (compact d)

-- its compact JSON has at most 1,048,576 bytes
abbrev pub Fits : Data → Type 0
Fits d = FitsWithin 1048576 d

-- its compact JSON has more
abbrev pub IsTooLong : Data → Type 0
IsTooLong d = IsLongerThan 1048576 d

-- a text that is made, and how many bytes of JSON it may take
pub record Drafted : Type 0 where
  pub text : List ℕ
  pub limit : ℕ
