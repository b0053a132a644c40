-- Edges that are kept from a list of candidates.
use Rattle.std.specs.Prelude.{◌≡◌, ◌⊎◌, ℕ, List, [], ◌∷◌, ◌++◌, Contains}
use Rattle.dep_graph.specs.Paths.{HasPath}

-- one of the edges goes from one place to another
abbrev pub Joins : List (ℕ × ℕ) → ℕ → ℕ → Type 0
Joins edges before after = Contains edges (before, after)

-- the candidate is kept unless the edges kept so far lead from its after to its before
abbrev pub Considers : List (ℕ × ℕ) → ℕ → ℕ → List (ℕ × ℕ) → Type 0
Considers kept before after new =
    (HasPath (Joins kept) after before × (new ≡ kept))
    ⊎ ((¬ HasPath (Joins kept) after before) × (new ≡ kept ++ (before, after) ∷ []))

-- candidates are considered one after another, beginning with edges kept already
pub data Keeps (first : List (ℕ × ℕ)) : List (ℕ × ℕ) → List (ℕ × ℕ) → Type 0 where
  begins : (candidates kept : List (ℕ × ℕ)) → candidates ≡ [] → kept ≡ first → Keeps first candidates kept
  goes_on : (earlier mid candidates kept : List (ℕ × ℕ)) (before after : ℕ) → Keeps first earlier mid
      → Considers mid before after kept → candidates ≡ earlier ++ (before, after) ∷ [] → Keeps first candidates kept
