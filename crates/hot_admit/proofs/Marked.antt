-- Resources and outputs by marks are those whose condition holds.
use Rattle.std.proofs.Common.{◌≡◌, ℕ, List, [], ◌∷◌, ◌++◌, Bool, true, false, map, cond, not, refl, ap}
use Rattle.std.proofs.Common.{if◌then◌else◌}
use Rattle.std.specs.Bool.{beq}
use Rattle.std.specs.List.{filter}
use Rattle.heat_plan.specs.declared.item.Item.{Item}
use Rattle.heat_plan.specs.declared.conditions.Condition.{Condition}
use Rattle.heat_plan.specs.declared.plan.Output.{Output}
use Rattle.heat_value.specs.Data.{Members}
use Rattle.hot_admit.specs.Basis.{BasisData, kind_at}
use Rattle.hot_admit.specs.Conds.{holds, resource_wanted, output_wanted}
use Rattle.hot_admit.specs.Items.{is_wanted, wanted_among, absent_among, item_with, items_with, names_marked}
use Rattle.hot_admit.specs.Items.{items_marked}
use Rattle.hot_admit.specs.Plans.{output_of, outputs_marked}
use Rattle.hot_admit.specs.Resources.{ResourceData, OutputData, names_of}

module _ (p : Members) (k : List Condition) where
  pub names_wanted : (rs : List ResourceData)
      → names_marked true rs (map (resource_wanted p k) rs) ≡ names_of (wanted_among p k rs)
  names_wanted [] = refl
  names_wanted (r ∷ rs) = by (holds p k r.condition) (names_wanted rs)
    where
      by : (b : Bool) → names_marked true rs (map (resource_wanted p k) rs) ≡ names_of (wanted_among p k rs)
          → (if beq b true then r.name ∷ names_marked true rs (map (resource_wanted p k) rs)
          else names_marked true rs (map (resource_wanted p k) rs))
          ≡ names_of (cond b (r ∷ wanted_among p k rs) (wanted_among p k rs))
      by true e = ap (λ (l : List (List ℕ)). r.name ∷ l) e
      by false e = e

  pub names_absent : (rs : List ResourceData)
      → names_marked false rs (map (resource_wanted p k) rs) ≡ absent_among p k rs
  names_absent [] = refl
  names_absent (r ∷ rs) = by (holds p k r.condition) (names_absent rs)
    where
      by : (b : Bool) → names_marked false rs (map (resource_wanted p k) rs) ≡ absent_among p k rs
          → (if beq b false then r.name ∷ names_marked false rs (map (resource_wanted p k) rs)
          else names_marked false rs (map (resource_wanted p k) rs))
          ≡ names_of (cond (not b) (r ∷ filter (λ x. not (is_wanted p k x)) rs)
          (filter (λ x. not (is_wanted p k x)) rs))
      by true e = e
      by false e = ap (λ (l : List (List ℕ)). r.name ∷ l) e

  pub items_wanted : (basis : BasisData) (names : List (List ℕ)) (rs : List ResourceData)
      → items_marked basis names rs (map (resource_wanted p k) rs) ≡ items_with basis names (wanted_among p k rs)
  items_wanted basis names [] = refl
  items_wanted basis names (r ∷ rs) = by (holds p k r.condition) (items_wanted basis names rs)
    where
      by : (b : Bool)
          → items_marked basis names rs (map (resource_wanted p k) rs) ≡ items_with basis names (wanted_among p k rs)
          → (if b then item_with names r (kind_at basis r) ++ items_marked basis names rs (map (resource_wanted p k) rs)
          else items_marked basis names rs (map (resource_wanted p k) rs))
          ≡ items_with basis names (cond b (r ∷ wanted_among p k rs) (wanted_among p k rs))
      by true e = ap (λ (l : List Item). item_with names r (kind_at basis r) ++ l) e
      by false e = e

  pub outputs_wanted : (os : List OutputData)
      → outputs_marked os (map (output_wanted p k) os) ≡ map (output_of p k) os
  outputs_wanted [] = refl
  outputs_wanted (o ∷ os) = ap (λ (l : List Output). output_of p k o ∷ l) (outputs_wanted os)
