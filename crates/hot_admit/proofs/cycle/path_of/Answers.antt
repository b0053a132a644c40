-- Each turn adds one item's name.
use Rattle.std.proofs.Common.{◌<◌, ◌∙◌, ℕ, length, get_or}
use Rattle.std.proofs.lemmas.List.{get_or_default}
use Rattle.std.proofs.lemmas.Option.{slice_get-get_or}
use Rattle.hot_admit.proofs.Cycles.{name_found, names_more}
use Rattle.hot_admit.proofs.cycle.path_of.Goals as goal

pub loop-place-preserved : goal.loop-place-preserved
loop-place-preserved c =
    let p : ℕ = get_or c.args.places.now c.loop-place.place-index 0 in
    let inside : p < length c.args.items.now = c.requires c.loop-place.place-index 0 c.loop-place-test.true in
    let here = slice_get-get_or c.args.items.now p c.index-items-place.result inside in
    let named = c.in_ok-from_str.ensures ∙ c.as_str-name.ensures.value
    ∙ name_found c.args.items.now p (get_or c.args.items.now p c.index-items-place.result) here in
    c.in_ok-push.ensures.ok
    ∙ names_more c.args.items.now c.args.places.now c.loop-place.place-index p c.loop-place.path _
    c.loop-place-test.true
    (get_or_default c.args.places.now c.loop-place.place-index 0 p c.loop-place-test.true) c.loop-place.invariant named
