-- What a read gives of a source, and what a write adds to a sink.
use Rattle.std.specs.Prelude.{◌≡◌, ℕ, ◌<◌, ◌≤◌, List, [], ◌++◌, length, take, Option, option_map, IfSome}
use Rattle.heat_io.specs.declared.source.Got.{Got}
use Rattle.heat_io.specs.declared.source.Got.TheVariants as got
use Rattle.heat_io.specs.declared.sink.Put.{Put}
use Rattle.heat_io.specs.declared.sink.Put.TheVariants as put

-- these bytes, and then what is left, where that is told
abbrev pub ahead : List ℕ → Option (List ℕ) → Option (List ℕ)
ahead bytes left = option_map (λ rest. bytes ++ rest) left

-- what is held, where that is told, and then these bytes
abbrev pub grown : Option (List ℕ) → List ℕ → Option (List ℕ)
grown held bytes = option_map (λ all. all ++ bytes) held

-- nothing is left, where that is told
abbrev pub IsEmptied : Option (List ℕ) → Type 0
IsEmptied left = IfSome left (λ rest. rest ≡ [])

-- one byte or more: the first of what was left now stand in front of the buffer
pub record GivesBytes (old new : Option (List ℕ)) (count : ℕ) (buf : List ℕ) : Type 0 where
  pub some : 0 < count
  pub within : count ≤ length buf
  pub first : old ≡ ahead (take count buf) new

abbrev pub Gives : Option (List ℕ) → Option (List ℕ) → Got → List ℕ → Type 0
Gives old new (got.Bytes count) buf = GivesBytes old new count buf
Gives old new got.End buf = (new ≡ old) × IsEmptied old
Gives old new got.Failed buf = new ≡ old

-- one byte or more: the first of the bytes now stand at the end of what is held
pub record TakesBytes (old new : Option (List ℕ)) (count : ℕ) (bytes : List ℕ) : Type 0 where
  pub some : 0 < count
  pub within : count ≤ length bytes
  pub last : new ≡ grown old (take count bytes)

abbrev pub Takes : Option (List ℕ) → Option (List ℕ) → Put → List ℕ → Type 0
Takes old new (put.Took count) bytes = TakesBytes old new count bytes
Takes old new put.Failed bytes = new ≡ old
Takes old new put.Memory bytes = new ≡ old
