-- What a change of properties asks for, by the properties that change in place.
use Rattle.std.specs.Prelude.{◌≡◌, ◌≢◌, ℕ, List, Contains}
use Rattle.heat_value.specs.Data.{Members, lookup}
use Rattle.type_catalog.specs.declared.effect.Effect.{Effect}
use Rattle.type_catalog.specs.declared.effect.Effect.TheVariants.{Same, InPlace, Replace}

-- the property differs, or stands in one of the maps alone
abbrev pub Differs : Members → Members → List ℕ → Type 0
Differs old new key = lookup key old ≢ lookup key new

-- equal maps ask for nothing; where each property that differs changes in place, for an update; else for a replacement
pub data ChangeOf (soft : List (List ℕ)) (old new : Members) : Effect → Type 0 where
  same : old ≡ new → ChangeOf soft old new Same
  in_place : old ≢ new → ((key : List ℕ) → Differs old new key → Contains soft key) → ChangeOf soft old new InPlace
  replace : (key : List ℕ) → Differs old new key → ¬ Contains soft key → ChangeOf soft old new Replace
