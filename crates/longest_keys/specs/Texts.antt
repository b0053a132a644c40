-- Where a text stands in another, and which of many is the longest at a place.
use Rattle.std.specs.Prelude.{◌≡◌, ◌≢◌, ◌≤◌, ℕ, zero, suc, pred, List, ◌++◌, length, take, All, Some, slice_get}

-- the text d stands at the front of s
abbrev pub Begins : List ℕ → List ℕ → Type 0
Begins d s = (rest : List ℕ) × (s ≡ d ++ rest)

-- d stands somewhere in s
abbrev pub IsPart : List ℕ → List ℕ → Type 0
IsPart d s = (before : List ℕ) × (after : List ℕ) × (s ≡ before ++ (d ++ after))

-- d stands nowhere in s
abbrev pub Lacks : List ℕ → List ℕ → Type 0
Lacks d s = (before after : List ℕ) → s ≢ before ++ (d ++ after)

-- the number, counted from 1, of a key that stands at the front of s, where none that stands there is longer; 0 where none stands there
abbrev pub IsLongest : List (List ℕ) → List ℕ → ℕ → Type 0
IsLongest keys s zero = All (λ k. ¬ (Begins k s)) keys
IsLongest keys s (suc i) =
    (k : List ℕ) × (slice_get keys i ≡ Some k) × Begins k s × All (λ h. Begins h s → length h ≤ length k) keys

-- s without its last byte
abbrev pub but_last : List ℕ → List ℕ
but_last s = take (pred (length s)) s
