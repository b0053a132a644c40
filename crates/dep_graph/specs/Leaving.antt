-- The search along the edges: which nodes were entered, and the visits that wait, the next one last.
use Rattle.std.specs.Prelude.{◌≡◌, ◌<◌, ◌⊎◌, ◌++◌, ℕ, List, [], ◌∷◌, Bool, All, map, slice_set, true}
use Rattle.dep_graph.specs.Lists.{ListsAll}
use Rattle.dep_graph.specs.Marks.{IsMarked}
use Rattle.dep_graph.specs.declared.leaving.Visit.{Visit}
use Rattle.dep_graph.specs.declared.leaving.Visit.TheVariants.{Enter, Leave}

-- the node that the visit is to
abbrev pub node_of : Visit → ℕ
node_of (Enter node) = node
node_of (Leave node) = node

-- visits to nodes below the size
abbrev pub AreWithin : ℕ → List Visit → Type 0
AreWithin size visits = All (λ visit. node_of visit < size) visits

-- a node that wasn't entered is entered: it is to be left behind visits to all to which it leads
pub record IsEntered (Edge : ℕ → ℕ → Type 0) (node : ℕ) (old : List Bool) (before : List Visit) (new : List Bool)
    (after : List Visit) : Type 0 where
  pub nexts : List ℕ
  pub lists : ListsAll (λ next. Edge node next) nexts
  pub marks : new ≡ slice_set old node true
  pub visits : after ≡ (before ++ Leave node ∷ []) ++ map (λ next. Enter next) nexts

-- a node is entered unless it was
abbrev pub Enters : (ℕ → ℕ → Type 0) → ℕ → List Bool → List Visit → List Bool → List Visit → Type 0
Enters Edge node old before new after =
    (IsMarked old node × (new ≡ old) × (after ≡ before))
    ⊎ ((¬ IsMarked old node) × IsEntered Edge node old before new after)
