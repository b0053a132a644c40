-- The search compares names with the one that is looked for.
use Rattle.std.proofs.Common.{rules, refl}
use Rattle.std.specs.Ordering.{nat_cmp}
use Rattle.std.specs.Cmp.Lexicographic.{slice_cmp}
use Rattle.std.proofs.lemmas.Fn.{always_returns_same}
use Rattle.heat_plan.specs.declared.item.Item.{Item}
use Rattle.traversal_graph.proofs.PlaceLemmas.{names_rise, place_missed}
use Rattle.plan_checks.proofs.Places.{found_named, place_past}
use Rattle.plan_checks.proofs.names.is_named.Goals as goal

pub returns-in-Ok : goal.returns-in-Ok
returns-in-Ok c =
    let by_name = c.binary_search_by.ensures.position (λ (x : Item). slice_cmp nat_cmp x.name c.args.name.now)
    (always_returns_same _ _ _ (λ a r f called. (search rules, search rules))) in
    let named = found_named c.args.items.now c.args.name.now c.in-Ok.field-0 c.requires
    (rw c.in-Ok.is at c.binary_search_by.ensures.bound) (rw c.in-Ok.is at by_name) in
    (λ _. named, λ _. refl)

pub returns-in-Err : goal.returns-in-Err
returns-in-Err c =
    let by_name = c.binary_search_by.ensures.position (λ (x : Item). slice_cmp nat_cmp x.name c.args.name.now)
    (always_returns_same _ _ _ (λ a r f called. (search rules, search rules))) in
    let past = place_missed c.args.items.now c.args.name.now c.in-Err.field-0
    ((rw c.in-Err.is at by_name) (names_rise c.args.items.now c.args.name.now c.requires)) in
    (λ f. cc, λ named. absurd (place_past c.args.items.now c.args.name.now named past))
