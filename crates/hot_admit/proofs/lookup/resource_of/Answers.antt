-- The closure compares a resource's name with the one that is wanted.
use Rattle.std.proofs.Common.{◌∙◌, Some, ap, rules, option_map}
use Rattle.std.proofs.lemmas.Fn.{always_returns_same}
use Rattle.std.specs.Ordering.{nat_cmp}
use Rattle.std.specs.Cmp.Lexicographic.{slice_cmp}
use Rattle.heat_plan.proofs.Searched.{names_rise, found_at, found_none}
use Rattle.hot_tree.specs.declared.res.Res.{Res}
use Rattle.hot_admit.specs.Resources.{resource_data}
use Rattle.hot_admit.proofs.Searched.{named_rising, named_found}
use Rattle.hot_admit.proofs.lookup.resource_of.Goals as goal

pub returns-in-Ok : goal.returns-in-Ok
returns-in-Ok c =
    let by_name = c.binary_search_by.ensures.position (λ (r : Res). slice_cmp nat_cmp r.name c.args.name.now)
    (always_returns_same _ _ _ (λ a r f called. (search rules, search rules))) in
    ap (λ (r : Res). Some (resource_data r)) c.index-resources-place.is
    ∙ ap (option_map resource_data) (found_at (λ (r : Res). r.name) c.args.name.now c.args.resources.now c.in-Ok.place _
    (named_rising c.args.resources.now c.requires) (rw c.in-Ok.is at c.binary_search_by.ensures.bound)
    (rw c.in-Ok.is at by_name))
    ∙ named_found c.args.name.now c.args.resources.now

pub returns-in-Err : goal.returns-in-Err
returns-in-Err c =
    let by_name = c.binary_search_by.ensures.position (λ (r : Res). slice_cmp nat_cmp r.name c.args.name.now)
    (always_returns_same _ _ _ (λ a r f called. (search rules, search rules))) in
    ap (option_map resource_data) (found_none (λ (r : Res). r.name) c.args.name.now c.args.resources.now
    c.in-Err.field-0 ((rw c.in-Err.is at by_name)
    (names_rise (λ (r : Res). r.name) c.args.name.now c.args.resources.now
    (named_rising c.args.resources.now c.requires))))
    ∙ named_found c.args.name.now c.args.resources.now
