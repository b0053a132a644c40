-- The closure compares a thing's name with the one that is wanted.
use Rattle.std.proofs.Common.{◌≡◌, ◌∙◌, Some, ap, sym, get_or, arith, rules}
use Rattle.std.proofs.lemmas.Grind.{common_steps}
use Rattle.std.proofs.lemmas.Fn.{always_returns_same}
use Rattle.std.specs.Ordering.{nat_cmp}
use Rattle.std.specs.Cmp.Lexicographic.{slice_cmp}
use Rattle.heat_plan.proofs.Searched.{names_rise, found_at, found_none}
use Rattle.heat_plan.proofs.by_name.searched.Goals as goal

pub returns-in-Ok : goal.returns-in-Ok
returns-in-Ok g c =
    let by_name = c.binary_search_by.ensures.position (λ x. slice_cmp nat_cmp (g.T.HasName.name_of x) c.args.name.now)
    (always_returns_same _ _ _ (λ a r f called. (search rules, search rules))) in
    let here : get_or c.args.list.now c.in-Ok.place c.index-list-place.result ≡ c.index-list-place.result = grind (arith, common_steps) in
    ap Some (sym here)
    ∙ found_at g.T.HasName.name_of c.args.name.now c.args.list.now c.in-Ok.place c.index-list-place.result c.requires
    (rw c.in-Ok.is at c.binary_search_by.ensures.bound) (rw c.in-Ok.is at by_name)

pub returns-in-Err : goal.returns-in-Err
returns-in-Err g c =
    let by_name = c.binary_search_by.ensures.position (λ x. slice_cmp nat_cmp (g.T.HasName.name_of x) c.args.name.now)
    (always_returns_same _ _ _ (λ a r f called. (search rules, search rules))) in
    found_none g.T.HasName.name_of c.args.name.now c.args.list.now c.in-Err.field-0
    ((rw c.in-Err.is at by_name) (names_rise g.T.HasName.name_of c.args.name.now c.args.list.now c.requires))
