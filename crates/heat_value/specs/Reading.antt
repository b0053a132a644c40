-- What bytes are read as, in the words of `serde_json`'s own specification.
use Rattle.std.specs.Prelude.{◌≡◌, ◌≤◌, ◌<◌, ◌+◌, ℕ, List, [], ◌∷◌, Option, Some, None}
use Rattle.std.specs.Prelude.{option_map, is_some, if◌then◌else◌, IsUtf8, ⊤}
use Rattle.std.specs.Option.{option_or}
use Rattle.serde_json.specs.Data as json
use Rattle.serde_json.specs.Find.{as_i64}
use Rattle.serde_json.specs.Read.{read}
use Rattle.heat_value.specs.Data.{Data, depth}
use Rattle.heat_value.specs.Compact.{json_of}
use Rattle.heat_value.specs.declared.path.Step.{Step}
use Rattle.heat_value.specs.declared.path.Step.TheVariants.{Key, Index}
use Rattle.heat_value.specs.declared.fault.ValueFault.{ValueFault}
use Rattle.heat_value.specs.declared.fault.ValueFault.TheVariants.{NotJson, TooDeep, BadNumber, Memory}

-- the bytes are text that `serde_json` reads as the data
abbrev pub IsReading : List ℕ → json.Data → Type 0
IsReading bytes d = IsUtf8 bytes × (read bytes ≡ Some d)

-- no data is their reading
abbrev pub HasNoReading : List ℕ → Type 0
HasNoReading bytes = (d : json.Data) → ¬ IsReading bytes d

-- the place that a path leads to, seen from one step above
abbrev pub under : Step → Option (List Step) → Option (List Step)
under s found = option_map (λ p. s ∷ p) found

-- the path of the first number that has no i64, in the order of the value: members go by their keys
abbrev mutual
  pub first_bad : json.Data → Option (List Step)
  first_bad json.null = None
  first_bad (json.boolean b) = None
  first_bad (json.number n) = if is_some (as_i64 n) then None else Some []
  first_bad (json.string s) = None
  first_bad (json.array ds) = items_bad 0 ds
  first_bad (json.object ms) = members_bad ms

  -- of a list's values from the place i on
  pub items_bad : ℕ → json.Items → Option (List Step)
  items_bad i json.no_items = None
  items_bad i (json.item d ds) = option_or (under (Index i) (first_bad d)) (items_bad (i + 1) ds)

  -- of a map's members, in order
  pub members_bad : json.Members → Option (List Step)
  members_bad json.no_members = None
  members_bad (json.member k d ms) = option_or (under (Key k) (first_bad d)) (members_bad ms)

-- the bytes are read as the value, which nests at most 64 deep and whose numbers are all whole
pub record IsReadAs (bytes : List ℕ) (v : Data) : Type 0 where
  pub reading : IsReading bytes (json_of v)
  pub shallow : depth v ≤ 64
  pub whole : first_bad (json_of v) ≡ None

-- the bytes have a reading that nests deeper than 64
pub record IsTooDeep (bytes : List ℕ) : Type 0 where
  pub data_read : json.Data
  pub reading : IsReading bytes data_read
  pub deep : 64 < json.depth data_read

-- the bytes have a reading no deeper than 64 whose first bad number stands at the path
pub record HasBadNumber (bytes : List ℕ) (path : List Step) : Type 0 where
  pub data_read : json.Data
  pub reading : IsReading bytes data_read
  pub shallow : json.depth data_read ≤ 64
  pub first : first_bad data_read ≡ Some path

-- a fault of a walk that looks at numbers alone: memory, or the bad number that was found
abbrev pub IsOfNumber : ValueFault → Option (List Step) → Type 0
IsOfNumber NotJson found = ⊥
IsOfNumber TooDeep found = ⊥
IsOfNumber (BadNumber p) found = found ≡ Some p
IsOfNumber Memory found = ⊤

-- a fault of reading alone: memory, or no reading
abbrev pub IsOfText : ValueFault → List ℕ → Type 0
IsOfText NotJson bytes = HasNoReading bytes
IsOfText TooDeep bytes = ⊥
IsOfText (BadNumber p) bytes = ⊥
IsOfText Memory bytes = ⊤
