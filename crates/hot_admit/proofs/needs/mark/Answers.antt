-- The closure compares a name with the one that is named.
use Rattle.std.proofs.Common.{◌∙◌, ℕ, List, Bool, true, ap, slice_set, rules}
use Rattle.std.proofs.lemmas.Fn.{always_returns_same}
use Rattle.std.specs.Ordering.{nat_cmp}
use Rattle.std.specs.Cmp.Lexicographic.{slice_cmp}
use Rattle.hot_admit.proofs.NameMarks.{texts_rise, mark_found, mark_missed}
use Rattle.hot_admit.proofs.needs.mark.Goals as goal

pub returns-in-Ok : goal.returns-in-Ok
returns-in-Ok c = λ named is.
    let by_name = c.binary_search_by.ensures.position (λ (n : List ℕ). slice_cmp nat_cmp n c.args.name.now)
    (always_returns_same _ _ _ (λ a r f called. (search rules, search rules))) in
    ap (λ (ms : List Bool). slice_set ms c.in-Ok.place true) is
    ∙ mark_found named c.args.names.now c.args.name.now c.in-Ok.place c.requires.rising
    (rw c.in-Ok.is at c.binary_search_by.ensures.bound) (rw c.in-Ok.is at by_name)

pub returns-in-Err : goal.returns-in-Err
returns-in-Err c = λ named is.
    let by_name = c.binary_search_by.ensures.position (λ (n : List ℕ). slice_cmp nat_cmp n c.args.name.now)
    (always_returns_same _ _ _ (λ a r f called. (search rules, search rules))) in
    is ∙ mark_missed named c.args.names.now c.args.name.now c.in-Err.field-0
    ((rw c.in-Err.is at by_name) (texts_rise c.args.name.now c.args.names.now c.requires.rising))
