-- Nodes of rows by the rows' numbers.
use Rattle.std.specs.Prelude.{◌≡◌, ◌⊎◌, ◌↔◌, ◌<◌, ◌+◌, ℕ, List, [], ◌∷◌, Contains, None, Option, Some, slice_get}
use Rattle.dep_graph.specs.Lists.{IsRising}
use Rattle.traversal_graph.specs.declared.brief.RowBrief.{RowBrief}

-- the node of a row whose number is among these, behind so many update nodes
pub record IsNumbered (first : ℕ) (rows : List RowBrief) (numbers : List ℕ) (node : ℕ) : Type 0 where
  pub q : ℕ
  pub node_is : node ≡ first + q
  pub row : RowBrief
  pub row_at : slice_get rows q ≡ Some row
  pub numbered : Contains numbers row.no

-- the node of a row before a place that has the number
pub record IsNumberedBefore (first : ℕ) (rows : List RowBrief) (number place node : ℕ) : Type 0 where
  pub q : ℕ
  pub before : q < place
  pub node_is : node ≡ first + q
  pub row : RowBrief
  pub row_at : slice_get rows q ≡ Some row
  pub numbered : row.no ≡ number

-- the new list rises, and has the old one's nodes and those of the kind
pub record PutsAll (Is : ℕ → Type 0) (old new : List ℕ) : Type 0 where
  pub rising : IsRising new
  pub each : (x : ℕ) → Contains new x ↔ (Contains old x ⊎ Is x)

-- the number, where there is one
abbrev pub all_of : Option ℕ → List ℕ
all_of None = []
all_of (Some number) = number ∷ []
