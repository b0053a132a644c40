-- The passes that there are, and what holds of the value and of them at the end.
use Rattle.std.specs.Prelude.{◌≡◌, ◌<◌, ◌≤◌, ◌+◌, ◌++◌, ℕ, Bool, not, false, List}
use Rattle.std.specs.Prelude.{◌∷◌, length, slice_index_or, sum_by, All, HoldsAt}
use mathlib.Core.List.{IsPrefix}
use Rattle.book_lock.specs.declared.view.Account.{Account}
use Rattle.book_lock.specs.Names.{on, child, parent}
use Rattle.book_lock.specs.Places.{once_between}
use Rattle.book_lock.specs.Standing.{Lock, Standing, IsPassOf}
use Rattle.book_lock.specs.Rule.{IsAccount, times_added}

-- the names of two that a split gave
pub record AreSiblingNames (name other : List Bool) : Type 0 where
  pub parent : List Bool
  pub flag : Bool
  pub first : name ≡ child parent flag
  pub second : other ≡ child parent (not flag)

module _ {T : Type 0} where
  -- the pass at this place was split as often as any
  abbrev pub IsDeepest : List (Standing T) → ℕ → Type 0
  IsDeepest passes k = HoldsAt (λ deep. All (λ pass. length pass.name ≤ length deep.name) passes) passes k

  -- the pass at this place was split off together with the one of this name
  abbrev pub IsBeside : List (Standing T) → List Bool → ℕ → Type 0
  IsBeside passes name k = HoldsAt (λ other. AreSiblingNames other.name name) passes k

  -- the passes are all that there are: each endless row of flags begins with the name of exactly one of them.
  -- So the two that a split gave stand for the one that was split, and all of them for the first
  abbrev pub AreAll : List (Standing T) → Type 0
  AreAll passes = (row : ℕ → Bool) → sum_by (λ pass. on row pass.name) passes ≡ 1

  -- among all passes these two stand for the one that was split
  abbrev pub StandFor : Standing T → Standing T → Standing T → Type 0
  StandFor pass elder younger = (row : ℕ → Bool) → on row elder.name + on row younger.name ≡ on row pass.name

  -- each pass keeps its name, and so they stay all that there are
  abbrev pub KeepNames : List (Standing T) → List (Standing T) → Type 0
  KeepNames before after =
      (k : ℕ) (d : Standing T) → k < length before → (slice_index_or after k d).name ≡ (slice_index_or before k d).name

  -- the pass is of this lock, and doesn't hold the value
  pub record IsFree (lock : Lock T) (pass : Standing T) : Type 0 where
    pub here : IsPassOf lock pass
    pub free : pass.holds ≡ false

  -- Seen and Mine of the pass, and those of the passes that were joined to it
  abbrev pub accounts : Standing T → List (Account T)
  accounts pass = pass.own ∷ pass.joined

  -- how often the place stands in the Mines of these passes
  abbrev pub times_added_by : ℕ → List (Standing T) → ℕ
  times_added_by place passes = sum_by (λ pass. times_added place (accounts pass)) passes

  -- the one that was split, with the accounts of both
  abbrev pub joined_pass : Standing T → Standing T → Standing T
  joined_pass pass other = record pass { name = parent pass.name; joined = pass.joined ++ accounts other }

module _ {T E O : Type 0} (list : T → List E) (origin : T → O) where
  -- The value has the origin of the one that the lock was opened with, and its list goes on from that one's.
  -- Each Seen is a prefix of it, and each Mine rises in its Seen. Each place behind the first list stands in exactly
  -- one Mine, once
  pub record Settled (opening : T) (passes : List (Standing T)) (value : T) : Type 0 where
    pub origin_stays : origin value ≡ origin opening
    pub begins : IsPrefix (list opening) (list value)
    pub accounts_fit : All (λ pass. All (IsAccount list origin opening (list value)) (accounts pass)) passes
    pub once : (place : ℕ)
        → times_added_by place passes ≡ once_between (length (list opening)) (length (list value)) place

  -- two of the passes were joined: what is settled for those that are left is settled for all that there were
  pub record JoinsTwo (lock : Lock T) (before after : List (Standing T)) : Type 0 where
    pub fewer : length after + 1 ≡ length before
    pub free : All (IsFree lock) after
    pub all : AreAll after
    pub settled : (value : T) → Settled lock.opening after value → Settled lock.opening before value
