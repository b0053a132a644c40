-- Ranks of nodes, one for each number; 0 is none.
use Rattle.std.specs.Prelude.{◌≡◌, ◌<◌, ◌≤◌, ℕ, List, Contains, length, slice_index_or}

-- the node's rank
abbrev pub rank_of : List ℕ → ℕ → ℕ
rank_of ranks node = slice_index_or ranks node 0

-- no edge leads to a higher rank, and each rank that is given is at least the lowest
pub record AreRanks (Edge : ℕ → ℕ → Type 0) (size lowest : ℕ) (ranks : List ℕ) : Type 0 where
  pub count : length ranks ≡ size
  pub falls : (before after : ℕ) → Edge before after → rank_of ranks after ≤ rank_of ranks before
  pub given : (node : ℕ) → 0 < rank_of ranks node → lowest ≤ rank_of ranks node

-- one of the nodes has the rank
pub record HasRank (nodes ranks : List ℕ) (rank : ℕ) : Type 0 where
  pub node : ℕ
  pub in_nodes : Contains nodes node
  pub same : rank_of ranks node ≡ rank
