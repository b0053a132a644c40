-- The search compares names with the one that is wanted, which an item has.
use Rattle.std.proofs.Common.{rules}
use Rattle.std.specs.Ordering.{nat_cmp}
use Rattle.std.specs.Cmp.Lexicographic.{slice_cmp}
use Rattle.std.proofs.lemmas.Fn.{always_returns_same}
use Rattle.heat_plan.specs.declared.item.Item.{Item}
use Rattle.traversal_graph.proofs.PlaceLemmas.{names_rise, place_found, place_missed}
use Rattle.plan_checks.proofs.Places.{named_at_place, place_past}
use Rattle.plan_checks.proofs.needs.place_of.Goals as goal

pub returns : goal.returns
returns c =
    let by_name = c.binary_search_by.ensures.position (λ (x : Item). slice_cmp nat_cmp x.name c.args.name.now)
    (always_returns_same _ _ _ (λ a r f called. (search rules, search rules))) in
    named_at_place c.args.items.now c.args.name.now c.in-Ok.place c.requires.met
    (place_found c.args.items.now c.args.name.now c.in-Ok.place c.requires.rising
    (rw c.in-Ok.is at c.binary_search_by.ensures.bound) (rw c.in-Ok.is at by_name))

pub unreachable-requires : goal.unreachable-requires
unreachable-requires c =
    let by_name = c.binary_search_by.ensures.position (λ (x : Item). slice_cmp nat_cmp x.name c.args.name.now)
    (always_returns_same _ _ _ (λ a r f called. (search rules, search rules))) in
    place_past c.args.items.now c.args.name.now c.requires.met
    (place_missed c.args.items.now c.args.name.now c.in-Err.field-0
    ((rw c.in-Err.is at by_name) (names_rise c.args.items.now c.args.name.now c.requires.rising)))
