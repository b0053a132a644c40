-- Places of a list, and how often each is counted.
use Rattle.std.specs.Prelude.{ℕ, zero, suc, ◌-◌, ◌&&◌, List, [], ◌∷◌, length, sum_by, nat_le, nat_lt, if◌then◌else◌}

-- so many places, from the first one on
abbrev pub places_from : ℕ → ℕ → List ℕ
places_from first zero = []
places_from first (suc count) = first ∷ places_from (suc first) count

-- the places of the longer list that lie behind the shorter one
abbrev pub places_behind : {E : Type 0} → List E → List E → List ℕ
places_behind before after = places_from (length before) (length after - length before)

-- 1 for each number from low on and below high, and 0 for any other
abbrev pub once_between : ℕ → ℕ → ℕ → ℕ
once_between low high x = if nat_le low x && nat_lt x high then 1 else 0

-- how often the place stands in the list
abbrev pub times : ℕ → List ℕ → ℕ
times x places = sum_by (λ y. once_between y (suc y) x) places
