-- What a call does to the bytes of a half, and what a crash may make of it until the next sync.
use Rattle.std.specs.Prelude.{◌≡◌, ◌⊎◌, ℕ, ◌+◌, ◌-◌, ◌<◌, ◌≤◌, min, max, List, ◌++◌, length, take, drop, slice_index}
use Rattle.heat_disk.specs.declared.half.Half.{Half}
use Rattle.heat_disk.specs.Halves.{Pair, part, beside}

-- these bytes at this place, over what stood there and past the end
abbrev pub overwritten : ℕ → List ℕ → List ℕ → List ℕ
overwritten at bytes old = take at old ++ bytes ++ drop (at + length bytes) old

-- n bytes of the half from this place on stand in front of the buffer, whose rest is as it was
pub record Fills (half : List ℕ) (at : ℕ) (old new : List ℕ) (n : ℕ) : Type 0 where
  pub count : n ≡ min (length old) (length half - at)
  pub bytes : new ≡ take n (drop at half) ++ drop n old

-- After a write of n bytes that a crash breaks off: any bytes in the range and past the old end,
-- the same elsewhere, and no length but one from the old to the one that was meant.
pub record Torn (at n : ℕ) (old new : List ℕ) : Type 0 where
  pub front : take (length (take at old)) new ≡ take at old
  pub behind : drop (at + n) new ≡ drop (at + n) old
  pub no_shorter : length old ≤ length new
  pub no_longer : length new ≤ max (length old) (at + n)

-- after a cut to n that a crash breaks off: its front, of some length down to n
pub record Cut (n : ℕ) (old new : List ℕ) : Type 0 where
  pub front : new ≡ take (length new) old
  pub no_shorter : min n (length old) ≤ length new

-- after a write that failed: each old byte in the range is as it was or as written
pub record PartlyWritten (at : ℕ) (bytes old new : List ℕ) : Type 0 where
  pub torn : Torn at (length bytes) old new
  pub each : (i : ℕ) → i < length bytes → at + i < length old
      → (slice_index new (at + i) ≡ slice_index old (at + i)) ⊎ (slice_index new (at + i) ≡ slice_index bytes i)

-- one half goes through a step, the other stays
abbrev pub StepsAt : Half → (List ℕ → List ℕ → Type 0) → Pair → Pair → Type 0
StepsAt half step old new = step (part half old) (part half new) × (beside half new ≡ beside half old)

-- each new image is an old one after a step of this half
abbrev pub Follows : Half → (List ℕ → List ℕ → Type 0) → (Pair → Type 0) → (Pair → Type 0) → Type 0
Follows half step old new = (c : Pair) → new c → (d : Pair) × old d × StepsAt half step d c

-- in each image this half has these bytes
abbrev pub Only : Half → List ℕ → (Pair → Type 0) → Type 0
Only half bytes images = (c : Pair) → images c → part half c ≡ bytes
