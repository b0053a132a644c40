-- What the lists and maps of a cloud file are read as, part by part in their order, up to the first fault.
use Rattle.std.specs.Prelude.{◌≡◌, ◌⊎◌, ◌+◌, ℕ, List, [], ◌∷◌, ◌++◌, Ok, Err}
use Rattle.serde_json.specs.Data.{Data, Items, no_items, item, Members, no_members, member}
use Rattle.heat_value.specs.declared.path.Step.{Step}
use Rattle.heat_value.specs.declared.path.Step.TheVariants.{Key, Index}
use Rattle.cloud_file.specs.Sorts.{Read}

-- The items from the place i on, behind those that were read. How an item is read may depend on these.
abbrev pub ReadsItems : {X : Type 0} → (List X → Data → Read X → Type 0) → ℕ → List X → Items → Read (List X) → Type 0
ReadsItems reads i done no_items r = r ≡ Ok done
ReadsItems {X} reads i done (item d ds) r =
    ((x : X) × reads done d (Ok x) × ReadsItems reads (i + 1) (done ++ x ∷ []) ds r)
    ⊎ ((p : List Step) × reads done d (Err p) × (r ≡ Err (Index i ∷ p)))

-- the members, behind those that were read
abbrev pub ReadsMembers : {X : Type 0} → (List ℕ → Data → Read X → Type 0) → List X → Members → Read (List X) → Type 0
ReadsMembers reads done no_members r = r ≡ Ok done
ReadsMembers {X} reads done (member k d ms) r =
    ((x : X) × reads k d (Ok x) × ReadsMembers reads (done ++ x ∷ []) ms r)
    ⊎ ((p : List Step) × reads k d (Err p) × (r ≡ Err (Key k ∷ p)))
