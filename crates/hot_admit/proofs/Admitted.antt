-- The items of what is wanted, with the names of what isn't, are what a plan keeps.
use Rattle.std.proofs.Common.{◌≡◌, ◌<◌, ◌≤◌, ◌^◌, ℕ, List, true, false, All, Contains, map, length, not, refl, sym}
use Rattle.std.proofs.Common.{subst}
use Rattle.std.proofs.Common.{◌∙◌, arith}
use Rattle.std.proofs.lemmas.List.Elements.{All-filter}
use Rattle.std.proofs.lemmas.List.Filters.{length-filter_both}
use Rattle.heat_plan.specs.Order.{Rising}
use Rattle.heat_plan.specs.Plans.{IsPlan, names_of as item_names}
use Rattle.heat_plan.specs.declared.item.Item.{Item}
use Rattle.heat_plan.specs.declared.conditions.Condition.{Condition}
use Rattle.heat_value.specs.Data.{Members}
use Rattle.hot_admit.specs.Basis.{BasisData}
use Rattle.hot_admit.specs.Conds.{resource_wanted}
use Rattle.hot_admit.specs.Cycles.{HasOrder}
use Rattle.hot_admit.specs.Items.{IsFit, is_wanted, wanted_among, items_of, names_marked}
use Rattle.hot_admit.specs.Resources.{ResourceData, names_of}
use Rattle.traversal_graph.proofs.OrderListings.{listing_from_order}
use Rattle.hot_admit.proofs.Apart.{apart_marked}
use Rattle.hot_admit.proofs.Chosen.{rising_marked}
use Rattle.hot_admit.proofs.Made.{made_names, made_met, made_count}
use Rattle.hot_admit.proofs.Marked.{names_wanted}

module _ (b : BasisData) (p : Members) (k : List Condition) (rs : List ResourceData) (fit : All (IsFit b) rs)
    (up : Rising (names_of rs)) where
  abbrev chosen : List ResourceData
  chosen = wanted_among p k rs

  abbrev made : List Item
  made = items_of b chosen

  chosen_fit : All (IsFit b) chosen
  chosen_fit = All-filter (is_wanted p k) (IsFit b) rs fit

  names_are : item_names made ≡ names_of chosen
  names_are = made_names b (names_of chosen) chosen chosen_fit

  -- the names of the items rise
  pub items_rise : Rising (item_names made)
  items_rise = rw (names_are, sym (names_wanted p k rs)) (rising_marked true rs (map (resource_wanted p k) rs) up)

  -- each need is an item's name
  pub items_met : All (λ (i : Item). All (Contains (item_names made)) i.needs) made
  items_met = subst (λ (ns : List (List ℕ)). All (λ (i : Item). All (Contains ns) i.needs) made) (sym names_are)
      (made_met b (names_of chosen) chosen chosen_fit)

  -- there are no more items than resources
  pub items_few : length rs ≤ 1000 → length made < 2 ^ 32
  items_few few = omega (
    arith,
    few,
    made_count b (names_of chosen) chosen chosen_fit,
    length-filter_both (is_wanted p k) (λ r. not (is_wanted p k r)) (λ r. refl) rs,
  )

  pub items_are_plan : HasOrder made → IsPlan made (names_marked false rs (map (resource_wanted p k) rs))
  items_are_plan order = record {
    rising = items_rise;
    met = items_met;
    acyclic = listing_from_order made order.0 items_met order.1;
    apart = subst (λ (ns : List (List ℕ)). All (λ name. ¬ Contains ns name)
        (names_marked false rs (map (resource_wanted p k) rs))) (names_wanted p k rs ∙ sym names_are)
        (apart_marked rs (map (resource_wanted p k) rs) up);
  }
