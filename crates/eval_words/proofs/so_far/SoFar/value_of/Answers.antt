-- The closure compares a condition's name with the one that is wanted.
use Rattle.std.proofs.Common.{◌∙◌, ℕ, Result, ap, sym, rules}
use Rattle.std.proofs.lemmas.Fn.{always_returns_same}
use Rattle.std.specs.Ordering.{nat_cmp}
use Rattle.std.specs.Cmp.Lexicographic.{slice_cmp}
use Rattle.heat_value.specs.declared.value.Member.{Member}
use Rattle.heat_value.proofs.Searches.{place_found}
use Rattle.eval_words.proofs.Placed.{value_there, value_placed}
use Rattle.eval_words.proofs.so_far.SoFar.value_of.Goals as goal

pub returns-in-Ok : goal.returns-in-Ok
returns-in-Ok c =
    let by_key = c.binary_search_by.ensures.position (λ (m : Member). slice_cmp nat_cmp m.key c.args.name.now)
    (always_returns_same _ _ _ (λ a r f called. (search rules, search rules))) in
    c.value_at.ensures
    ∙ ap (λ (r : Result ℕ ℕ). value_there r c.args.self.now.values.now) (sym c.in-Ok.is
    ∙ place_found c.args.name.now c.args.self.now.conds.now _ c.args.self.now.rising c.binary_search_by.ensures.bound
    by_key)
    ∙ sym (value_placed c.args.name.now c.args.self.now.conds.now c.args.self.now.values.now c.args.self.now.rising)

pub returns-in-Err : goal.returns-in-Err
returns-in-Err c =
    let by_key = c.binary_search_by.ensures.position (λ (m : Member). slice_cmp nat_cmp m.key c.args.name.now)
    (always_returns_same _ _ _ (λ a r f called. (search rules, search rules))) in
    ap (λ (r : Result ℕ ℕ). value_there r c.args.self.now.values.now) (sym c.in-Err.is
    ∙ place_found c.args.name.now c.args.self.now.conds.now _ c.args.self.now.rising c.binary_search_by.ensures.bound
    by_key)
    ∙ sym (value_placed c.args.name.now c.args.self.now.conds.now c.args.self.now.values.now c.args.self.now.rising)
