-- A text cut at a delimiter, and what is asked of its pieces.
use Rattle.std.specs.Prelude.{◌≡◌, ◌≢◌, ◌≤◌, ℕ, ℤ, pos, negsuc, List, [], ◌∷◌}
use Rattle.std.specs.Prelude.{length, slice_get, Option, Some, None, ◌⊎◌, ⊤}
use Rattle.heat_value.specs.Data.{Data, null, flag, whole, words, items, fields, Nodes, no_nodes, node}
use Rattle.heat_value.specs.Meaning.{data_of}
use Rattle.heat_value.specs.declared.value.Value.{Value}
use denote.Ref.{Bor}
use Rattle.hot_strings.specs.Places.{Lacks, StandsFirst}
use Rattle.hot_strings.specs.Size.{IsTooLong}
use Rattle.hot_strings.specs.declared.fault.StringFault.{StringFault}
use Rattle.hot_strings.specs.declared.fault.StringFault.TheVariants.{F02, F03, F04, F06, Memory}

-- each piece but the last ends where the delimiter first stands from its begin on; the last has none
abbrev pub AreSplit : List ℕ → List ℕ → List (List ℕ) → Type 0
AreSplit d s [] = ⊥
AreSplit d s (p ∷ []) = (p ≡ s) × Lacks d s
AreSplit d s (p ∷ q ∷ ps) = (rest : List ℕ) × StandsFirst d s p rest × AreSplit d rest (q ∷ ps)

-- the pieces as a list of texts
abbrev pub texts : List (List ℕ) → Nodes
texts [] = no_nodes
texts (p ∷ ps) = node (words p) (texts ps)

-- what is asked for: all pieces, the piece at a place, or what no index names
pub data Asked : Type 0 where
  all : Asked
  one : ℕ → Asked
  unfit : Asked

abbrev pub asked_at : ℤ → Asked
asked_at (pos n) = one n
asked_at (negsuc n) = unfit

-- an index is a whole number of 0 or more
abbrev pub asked_by : Data → Asked
asked_by null = unfit
asked_by (flag b) = unfit
asked_by (whole z) = asked_at z
asked_by (words s) = unfit
asked_by (items ns) = unfit
asked_by (fields ms) = unfit

abbrev pub asked_of : Option (Bor Value) → Asked
asked_of None = all
asked_of (Some v) = asked_by (data_of v.now)

-- the pieces that are asked for
abbrev pub IsSplitValue : List ℕ → List ℕ → Asked → Data → Type 0
IsSplitValue d s all v = (ps : List (List ℕ)) × AreSplit d s ps × (v ≡ items (texts ps))
IsSplitValue d s (one i) v =
    (ps : List (List ℕ)) × (p : List ℕ) × AreSplit d s ps × (slice_get ps i ≡ Some p) × (v ≡ words p)
IsSplitValue d s unfit v = ⊥

-- the text has no piece at the place
abbrev pub IsOutOfRange : List ℕ → List ℕ → Asked → Type 0
IsOutOfRange d s all = ⊥
IsOutOfRange d s (one i) = (ps : List (List ℕ)) × AreSplit d s ps × (length ps ≤ i)
IsOutOfRange d s unfit = ⊥

-- the value is too long
abbrev pub IsSplitTooLong : List ℕ → List ℕ → Asked → Type 0
IsSplitTooLong d s a = (v : Data) × IsSplitValue d s a v × IsTooLong v

-- when each fault comes; of two the one above
abbrev pub IsSplitFault : StringFault → List ℕ → List ℕ → Asked → Type 0
IsSplitFault F02 d s a = (a ≡ unfit) ⊎ ((d ≢ []) × IsOutOfRange d s a)
IsSplitFault F03 d s a = (a ≢ unfit) × (d ≡ [])
IsSplitFault F04 d s a = ⊥
IsSplitFault F06 d s a = (a ≢ unfit) × (d ≢ []) × IsSplitTooLong d s a
IsSplitFault Memory d s a = ⊤
