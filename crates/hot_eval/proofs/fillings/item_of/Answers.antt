-- The closure compares a key with the text that is looked for.
use Rattle.std.proofs.Common.{◌∙◌, ap, sym, subst, arith, rules, length, List, ℕ}
use Rattle.std.proofs.lemmas.Fn.{always_returns_same}
use Rattle.std.specs.Ordering.{nat_cmp}
use Rattle.std.specs.Cmp.Lexicographic.{slice_cmp}
use Rattle.heat_plan.proofs.Searched.{names_rise, found_none}
use Rattle.heat_plan.specs.Order.{Rising}
use Rattle.hot_strings.specs.Indexes.{keys_in}
use Rattle.hot_strings.specs.Pieces.{Params}
use Rattle.eval_words.specs.Fillings.{item_of}
use Rattle.hot_eval.specs.Repeats.{with_items}
use Rattle.hot_eval.proofs.Picks.{length-items, item_found, item_none}
use Rattle.hot_eval.proofs.fillings.item_of.Goals as goal

pub index-requires : goal.index-requires
index-requires c =
    omega (arith, c.in-Ok.ensures.bound, ap length c.as_slice.ensures.value, length-items _ _ c.requires.texts)

pub returns-in-Ok : goal.returns-in-Ok
returns-in-Ok c =
    let by_key = c.binary_search_by.ensures.position (λ (p : List ℕ × List ℕ). slice_cmp nat_cmp p.0 c.args.words.now)
    (always_returns_same _ _ _ (λ a r f called. (search rules, search rules))) in
    let up : Rising (keys_in c.as_slice.result.now) =
    subst (λ (ps : Params). Rising (keys_in ps)) (sym c.as_slice.ensures.value) c.requires.rising in
    item_found c.args.words.now c.as_slice.result.now c.args.choice.now.items.items c.in-Ok.at c.index.result.now up
    c.in-Ok.ensures.bound
    (omega (arith, ap length c.as_slice.ensures.value, length-items _ _ c.requires.texts)) (rw c.in-Ok.is at by_key)
    c.index.ensures
    ∙ ap (λ (ps : Params). item_of (with_items ps c.args.choice.now.items.items) c.args.words.now) c.as_slice.ensures.value

pub returns-in-Err : goal.returns-in-Err
returns-in-Err c =
    let by_key = c.binary_search_by.ensures.position (λ (p : List ℕ × List ℕ). slice_cmp nat_cmp p.0 c.args.words.now)
    (always_returns_same _ _ _ (λ a r f called. (search rules, search rules))) in
    let up : Rising (keys_in c.as_slice.result.now) =
    subst (λ (ps : Params). Rising (keys_in ps)) (sym c.as_slice.ensures.value) c.requires.rising in
    item_none c.args.words.now c.as_slice.result.now c.args.choice.now.items.items
    (found_none (λ (p : List ℕ × List ℕ). p.0) c.args.words.now c.as_slice.result.now c.in-Err.field-0
    ((rw c.in-Err.is at by_key) (names_rise (λ (p : List ℕ × List ℕ). p.0) c.args.words.now c.as_slice.result.now up)))
    ∙ ap (λ (ps : Params). item_of (with_items ps c.args.choice.now.items.items) c.args.words.now) c.as_slice.ensures.value
