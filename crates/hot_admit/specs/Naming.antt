-- The graph of what conditions name: a node for each condition, by its place.
use Rattle.std.specs.Prelude.{◌≡◌, ◌↔◌, ◌⊎◌, ◌<◌, ℕ, List, Some, Contains, length, slice_get}
use Rattle.dep_graph.specs.Edges.{Links, HasEdge}
use Rattle.dep_graph.specs.Orders.{Orders}
use Rattle.heat_value.specs.Data.{Members, keys_of}
use Rattle.eval_words.specs.Conditions.{Names}

-- the condition at the one place is named by the condition at the other
pub record IsNamedBy (conds : Members) (before after : ℕ) : Type 0 where
  pub named : List ℕ
  pub naming : List ℕ
  pub named_at : slice_get (keys_of conds) before ≡ Some named
  pub naming_at : slice_get (keys_of conds) after ≡ Some naming
  pub names : Names conds naming named

-- an edge for each condition that another names
pub record HasNames (conds : Members) (graph : Links) : Type 0 where
  pub same : length graph ≡ length (keys_of conds)
  pub edges : (x y : ℕ) → HasEdge graph x y ↔ IsNamedBy conds x y

-- the same of the first so many conditions alone
pub record HasFirstNames (conds : Members) (count : ℕ) (graph : Links) : Type 0 where
  pub same : length graph ≡ length (keys_of conds)
  pub edges : (x y : ℕ) → HasEdge graph x y ↔ ((y < count) × IsNamedBy conds x y)

-- the condition at the place has one of these names
pub record HasNameAt (conds : Members) (names : List (List ℕ)) (place : ℕ) : Type 0 where
  pub name : List ℕ
  pub found : slice_get (keys_of conds) place ≡ Some name
  pub named : Contains names name

-- the edges that were, and those from the conditions of these names to one
pub record AddsNames (conds : Members) (names : List (List ℕ)) (after : ℕ) (old new : Links) : Type 0 where
  pub same : length new ≡ length old
  pub edges : (x y : ℕ) → HasEdge new x y ↔ (HasEdge old x y ⊎ (HasNameAt conds names x × (y ≡ after)))

-- the places of the conditions, each behind those that it names
abbrev pub IsNamingOrder : Members → List ℕ → Type 0
IsNamingOrder conds order = Orders (IsNamedBy conds) (length (keys_of conds)) order
