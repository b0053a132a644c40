-- An effect that isn't a change in place.
use Rattle.std.proofs.Common.{◌≡◌, ◌≢◌, Bool, false, refl, subst, sym, true}
use Rattle.std.proofs.lemmas.Bool.{both_ways}
use Rattle.type_catalog.specs.declared.effect.Effect.{Effect}
use Rattle.type_catalog.specs.declared.effect.Effect.TheVariants.{InPlace, Replace, Same}

abbrev in_place : Effect → Bool
in_place Same = false
in_place InPlace = true
in_place Replace = false

pub not_same : (effect : Effect) → effect ≡ Same → effect ≢ InPlace
not_same effect is soft = both_ways (in_place effect) (subst (λ (x : Effect). in_place x ≡ false) (sym is) refl)
    (subst (λ (x : Effect). in_place x ≡ true) (sym soft) refl)

pub not_replace : (effect : Effect) → effect ≡ Replace → effect ≢ InPlace
not_replace effect is soft = both_ways (in_place effect) (subst (λ (x : Effect). in_place x ≡ false) (sym is) refl)
    (subst (λ (x : Effect). in_place x ≡ true) (sym soft) refl)
