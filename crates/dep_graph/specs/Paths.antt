-- Paths and cycles of a relation between nodes. Other crates cite these words.
use Rattle.std.specs.Prelude.{◌≡◌, ℕ, List, [], ◌∷◌, ◌++◌, Contains}

-- from a node along edges through the nodes listed to another
abbrev pub Leads : (ℕ → ℕ → Type 0) → ℕ → List ℕ → ℕ → Type 0
Leads Edge from [] to = from ≡ to
Leads Edge from (next ∷ rest) to = Edge from next × Leads Edge next rest to

-- nodes from one to another, each joined to the next by an edge
abbrev pub IsPath : (ℕ → ℕ → Type 0) → ℕ → ℕ → List ℕ → Type 0
IsPath Edge from to [] = ⊥
IsPath Edge from to (first ∷ rest) = (first ≡ from) × Leads Edge from rest to

-- some path goes from one node to another; each node has one to itself
abbrev pub HasPath : (ℕ → ℕ → Type 0) → ℕ → ℕ → Type 0
HasPath Edge from to = (path : List ℕ) × IsPath Edge from to path

-- some path goes from one of the nodes to this one
abbrev pub HasPathFrom : (ℕ → ℕ → Type 0) → List ℕ → ℕ → Type 0
HasPathFrom Edge nodes to = (from : ℕ) × Contains nodes from × HasPath Edge from to

-- nodes, each joined to the next by an edge, and the last to the first
abbrev pub IsCycle : (ℕ → ℕ → Type 0) → List ℕ → Type 0
IsCycle Edge [] = ⊥
IsCycle Edge (first ∷ rest) = Leads Edge first (rest ++ first ∷ []) first

-- no nodes form a cycle
abbrev pub IsAcyclic : (ℕ → ℕ → Type 0) → Type 0
IsAcyclic Edge = (nodes : List ℕ) → ¬ IsCycle Edge nodes

-- the edges read backwards
abbrev pub Against : (ℕ → ℕ → Type 0) → ℕ → ℕ → Type 0
Against Edge from to = Edge to from
