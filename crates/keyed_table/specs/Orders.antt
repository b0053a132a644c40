-- Indexes: the places of a list's keys, sorted by the keys.
use Rattle.std.specs.Prelude.{◌≡◌, ◌≢◌, ◌<◌, ◌≤◌, ◌-◌, ℕ, Bool, true, false, List, Option, Some, None, cond, length, nat_lt, slice_get, slice_index, slice_index_or}

-- `same` tells equal keys, and `below` is a strict order of all others
pub record IsSorting {K : Type 0} (same below : K → K → Bool) : Type 0 where
  pub itself : (a : K) → same a a ≡ true
  pub equal : (a b : K) → same a b ≡ true → a ≡ b
  pub apart : (a : K) → below a a ≡ false
  pub onward : (a b c : K) → below a b ≡ true → below b c ≡ true → below a c ≡ true
  pub either : (a b : K) → below a b ≡ false → below b a ≡ false → a ≡ b

-- the places of all keys but the one at `out`, the keys there rising
pub record IsOrderBut {K : Type 0} (below : K → K → Bool) (out : ℕ) (keys : List K) (places : List ℕ) : Type 0 where
  pub within : (i : ℕ) → i < length places → (slice_index places i < length keys) × (slice_index places i ≢ out)
  pub rises : (i j : ℕ) (d : K) → i < j → j < length places
      → below (slice_index_or keys (slice_index places i) d) (slice_index_or keys (slice_index places j) d) ≡ true
  pub whole : (p : ℕ) → p < length keys → p ≢ out → (i : ℕ) × (i < length places) × (slice_index places i ≡ p)

-- the places of all keys, the keys there rising
abbrev pub IsOrder : {K : Type 0} → (K → K → Bool) → List K → List ℕ → Type 0
IsOrder below keys = IsOrderBut below (length keys) keys

-- no two places have one key
abbrev pub AreApart : {K : Type 0} → List K → Type 0
AreApart {K} keys = (p q : ℕ) (d : K) → p < length keys → q < length keys → slice_index_or keys p d ≡ slice_index_or keys q d → p ≡ q

-- a test of keys that passes each key below one that it passes
abbrev pub IsDownward : {K : Type 0} → (K → K → Bool) → (K → Bool) → Type 0
IsDownward {K} below test = (a b : K) → below a b ≡ true → test b ≡ true → test a ≡ true

-- the test passes the keys at the first `at` places, and none at the others
pub record IsStart {K : Type 0} (test : K → Bool) (keys : List K) (places : List ℕ) (at : ℕ) : Type 0 where
  pub few : at ≤ length places
  pub before : (i : ℕ) (d : K) → i < at → test (slice_index_or keys (slice_index places i) d) ≡ true
  pub behind : (i : ℕ) (d : K) → at ≤ i → i < length places → test (slice_index_or keys (slice_index places i) d) ≡ false

-- where a place is once one before it is gone
abbrev pub closed : ℕ → ℕ → ℕ
closed gone place = cond (nat_lt gone place) (place - 1) place

-- there is a record, and it passes
abbrev pub is_one : {A : Type 0} → (A → Bool) → Option A → Bool
is_one test None = false
is_one test (Some x) = test x

-- the record at a place passes
abbrev pub passes_at : {A : Type 0} → (A → Bool) → List A → ℕ → Bool
passes_at test items place = is_one test (slice_get items place)
