-- The search compares names with the one that is wanted.
use Rattle.std.proofs.Common.{◌≡◌, ◌∙◌, List, length, subst, ap, refl, sym, rules, arith}
use Rattle.std.specs.Prelude.{slice_get}
use Rattle.std.specs.Ordering.{nat_cmp}
use Rattle.std.specs.Cmp.Lexicographic.{slice_cmp}
use Rattle.std.proofs.lemmas.Fn.{always_returns_same}
use Rattle.std.proofs.lemmas.Option.{slice_get_past, slice_get_read}
use Rattle.heat_plan.specs.Order.{Rising}
use Rattle.heat_plan.specs.Plans.{names_of}
use Rattle.heat_plan.specs.declared.item.Item.{Item}
use Rattle.core_state.specs.Reads.{item_at}
use Rattle.traversal_graph.proofs.PlaceLemmas.{names_rise, place_found, place_missed}
use Rattle.step_reads.proofs.ItemLemmas.{at_its_place}
use Rattle.step_reads.proofs.plans.item_of.Goals as goal

pub returns-in-Ok : goal.returns-in-Ok
returns-in-Ok c =
    let items = c.items-items.result.now in
    let name = c.args.name.now in
    let rising : Rising (names_of items) =
    subst (λ (xs : List Item). Rising (names_of xs)) (sym c.items-items.ensures.value) c.items-items.ensures.plan.rising in
    let by_name =
    c.binary_search_by.ensures.position (λ (x : Item). slice_cmp nat_cmp x.name name)
    (always_returns_same _ _ _ (λ a r f called. (search rules, search rules))) in
    let within = rw c.in-Ok.is at c.binary_search_by.ensures.bound in
    let place = place_found items name c.in-Ok.place rising within (rw c.in-Ok.is at by_name) in
    let here = slice_get_read items _ c.in-Ok.place c.index-items-place.result refl within c.index-items-place.is in
    sym here ∙ ap (λ i. slice_get items i) place ∙ at_its_place items name
    ∙ ap (λ (xs : List Item). item_at xs name) c.items-items.ensures.value

pub returns-in-Err : goal.returns-in-Err
returns-in-Err c =
    let items = c.items-items.result.now in
    let name = c.args.name.now in
    let rising : Rising (names_of items) =
    subst (λ (xs : List Item). Rising (names_of xs)) (sym c.items-items.ensures.value) c.items-items.ensures.plan.rising in
    let by_name =
    c.binary_search_by.ensures.position (λ (x : Item). slice_cmp nat_cmp x.name name)
    (always_returns_same _ _ _ (λ a r f called. (search rules, search rules))) in
    let past = place_missed items name c.in-Err.field-0 ((rw c.in-Err.is at by_name) (names_rise items name rising)) in
    sym (slice_get_past items (length items) (omega arith)) ∙ ap (λ i. slice_get items i) past ∙ at_its_place items name
    ∙ ap (λ (xs : List Item). item_at xs name) c.items-items.ensures.value
