-- Orders that respect the edges, and the cycle that is told where there is none.
use Rattle.std.specs.Prelude.{◌≡◌, ◌<◌, ◌↔◌, ℕ, List, [], ◌∷◌, ◌++◌, Contains, nat_eq}
use Rattle.std.specs.List.{IsDistinct}
use Rattle.dep_graph.specs.Lists.{IsLeast}
use Rattle.dep_graph.specs.Paths.{IsPath, IsCycle, IsAcyclic, Against}

-- a node below the size, not listed yet, all of whose predecessors are
pub record IsReady (Edge : ℕ → ℕ → Type 0) (size : ℕ) (listed : List ℕ) (node : ℕ) : Type 0 where
  pub within : node < size
  pub fresh : ¬ Contains listed node
  pub ready : (pred : ℕ) → Edge pred node → Contains listed pred

-- each node is the least that is ready after those before it
abbrev pub TakesLeast : (ℕ → ℕ → Type 0) → ℕ → List ℕ → Type 0
TakesLeast Edge size order = (front : List ℕ) (node : ℕ) (back : List ℕ)
    → order ≡ front ++ node ∷ back → IsLeast (IsReady Edge size front) node

-- each edge goes from an earlier node to a later one
abbrev pub GoesForward : (ℕ → ℕ → Type 0) → List ℕ → Type 0
GoesForward Edge order = (front : List ℕ) (node : ℕ) (back : List ℕ)
    → order ≡ front ++ node ∷ back → (pred : ℕ) → Edge pred node → Contains front pred

-- each node once, edges forward, the least ready node first
pub record IsLeastOrder (Edge : ℕ → ℕ → Type 0) (size : ℕ) (order : List ℕ) : Type 0 where
  pub all : (node : ℕ) → Contains order node ↔ (node < size)
  pub once : IsDistinct nat_eq order
  pub forward : GoesForward Edge order
  pub least : TakesLeast Edge size order

-- a node is taken away once all its predecessors were
pub data IsTaken (Edge : ℕ → ℕ → Type 0) : ℕ → Type 0 where
  takes : (node : ℕ) → ((pred : ℕ) → Edge pred node → IsTaken Edge pred) → IsTaken Edge node

-- a node is left where it can't be taken away
abbrev pub IsLeft : (ℕ → ℕ → Type 0) → ℕ → Type 0
IsLeft Edge node = ¬ IsTaken Edge node

-- from a node to the least of its predecessors that are left
abbrev pub GoesBack : (ℕ → ℕ → Type 0) → ℕ → ℕ → Type 0
GoesBack Edge node = IsLeast (λ pred. Edge pred node × IsLeft Edge pred)

-- the walk back from the least node left: a stem, the cycle, and the cycle's first node again
pub record IsWalkedCycle (Edge : ℕ → ℕ → Type 0) (cycle : List ℕ) : Type 0 where
  pub start : ℕ
  pub first : ℕ
  pub stem : List ℕ
  pub others : List ℕ
  pub start_is : IsLeast (IsLeft Edge) start
  pub cycle_is : cycle ≡ first ∷ others
  pub walk : IsPath (GoesBack Edge) start first (stem ++ cycle ++ first ∷ [])
  pub once : IsDistinct nat_eq (stem ++ cycle)

-- an order stands where no cycle does
pub record Orders (Edge : ℕ → ℕ → Type 0) (size : ℕ) (order : List ℕ) : Type 0 where
  pub acyclic : IsAcyclic Edge
  pub listed : IsLeastOrder Edge size order

-- a cycle against the edges, that of the walk
pub record FindsCycle (Edge : ℕ → ℕ → Type 0) (cycle : List ℕ) : Type 0 where
  pub closed : ¬ IsAcyclic Edge
  pub back : IsCycle (Against Edge) cycle
  pub walked : IsWalkedCycle Edge cycle
