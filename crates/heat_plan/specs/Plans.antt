-- What a plan keeps of its items, their needs and the absent names.
use Rattle.std.specs.Prelude.{◌≡◌, ◌<◌, ℕ, List, map, All, Contains, Some, slice_get, IsPermutation}
use Rattle.heat_value.specs.Data.{Members}
use Rattle.heat_plan.specs.Order.{Rising}
use Rattle.heat_plan.specs.declared.item.Item.{Item}
use Rattle.heat_plan.specs.declared.plan.Output.{Output}
use Rattle.heat_plan.specs.declared.conditions.Condition.{Condition}
use Rattle.heat_plan.specs.declared.files.File.{File}

-- the names of items, in their order
abbrev pub names_of : List Item → List (List ℕ)
names_of items = map (λ (i : Item). i.name) items

-- an item of that name stands before the place p
pub record StandsBefore (listed : List Item) (p : ℕ) (name : List ℕ) : Type 0 where
  pub place : ℕ
  pub item : Item
  pub earlier : place < p
  pub found : slice_get listed place ≡ Some item
  pub named : item.name ≡ name

-- the same items in an order in which each stands behind its needs
pub record IsListing (items listed : List Item) : Type 0 where
  pub same : IsPermutation items listed
  pub behind : (p : ℕ) (i : Item) → slice_get listed p ≡ Some i → All (StandsBefore listed p) i.needs

-- needs have no cycle: the items can be listed so that each stands behind its needs
abbrev pub HasNoCycle : List Item → Type 0
HasNoCycle items = (listed : List Item) × IsListing items listed

-- items in byte order, each name once; needs are names of items and have no cycle; no absent name is an item's
pub record IsPlan (items : List Item) (absent : List (List ℕ)) : Type 0 where
  pub rising : Rising (names_of items)
  pub met : All (λ (i : Item). All (Contains (names_of items)) i.needs) items
  pub acyclic : HasNoCycle items
  pub apart : All (λ name. ¬ Contains (names_of items) name) absent

-- a plan, part by part
pub record PlanData : Type 0 where
  pub items : List Item
  pub outputs : List Output
  pub params : Members
  pub conds : List Condition
  pub files : List File
  pub absent : List (List ℕ)
