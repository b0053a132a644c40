-- What a reader holds after one read, and after reading on to a line's end.
use Rattle.std.specs.Prelude.{◌≡◌, ℕ, ◌<◌, ◌≤◌, List, ◌++◌, length, Option}
use Rattle.heat_io.specs.declared.held.Filled.{Filled}
use Rattle.heat_io.specs.declared.held.Filled.TheVariants as filled
use Rattle.heat_io.specs.declared.held.Found.{Found}
use Rattle.heat_io.specs.declared.held.Found.TheVariants as found
use Rattle.heat_io.specs.Streams.{ahead, IsEmptied}
use Rattle.heat_io.specs.Lines.{length_of_line, line_limit, most_read}

-- some bytes of the source are held now, behind the others, no more than one read takes
abbrev pub Grows : List ℕ → List ℕ → Option (List ℕ) → Option (List ℕ) → Type 0
Grows old new left_old left_new =
    (taken : List ℕ) × (0 < length taken) × (new ≡ old ++ taken) × (left_old ≡ ahead taken left_new)
    × (length taken ≤ most_read)

abbrev pub IsFilled : Filled → List ℕ → List ℕ → Option (List ℕ) → Option (List ℕ) → Type 0
IsFilled filled.More old new left_old left_new = Grows old new left_old left_new
IsFilled filled.End old new left_old left_new = (new ≡ old) × (left_new ≡ left_old) × IsEmptied left_old
IsFilled filled.ReadFault old new left_old left_new = (new ≡ old) × (left_new ≡ left_old)
IsFilled filled.Memory old new left_old left_new = (new ≡ old) × (left_new ≡ left_old)

-- where the first line of what is held ends
abbrev pub IsFound : Found → List ℕ → Option (List ℕ) → Type 0
IsFound (found.Lf count) held left = (count ≡ length_of_line held) × (count < length held) × (count ≤ line_limit)
IsFound found.End held left = (length_of_line held ≡ length held) × (length held ≤ line_limit) × IsEmptied left
IsFound found.TooLong held left = line_limit < length_of_line held
IsFound found.ReadFault held left = Unit {0}
IsFound found.Memory held left = Unit {0}
