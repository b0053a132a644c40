-- Each turn finds the value of one condition more, where it has one.
use Rattle.std.proofs.Common.{◌≡◌, ◌∙◌, sym, arith, true, false}
use Rattle.std.proofs.lemmas.List.Elements.{Contains-get_or}
use Rattle.hot_admit.proofs.Adding.{one_further, all_found, finds_still, finds_later}
use Rattle.hot_admit.proofs.Keyed.{keys_count}
use Rattle.hot_admit.proofs.condition_values.find_in_order.Goals as goal
use Rattle.hot_admit.proofs.condition_values.find_in_order.Goals.{then-branch, else-branch}

pub find_at-requires-clause-place : goal.find_at-requires-clause-place
find_at-requires-clause-place c =
    omega (
      arith,
      (c.requires.order.listed.all _).0 (Contains-get_or c.args.order.now c.loop-place.place-index 0
          c.loop-place-test.true),
      keys_count c.args.conds.now,
    )

pub loop-place-preserved : goal.loop-place-preserved
loop-place-preserved c = (
  one_further _ _ c.args.order.now _ c.loop-place.place-index _ c.loop-place.values.items _ c.loop-place.invariant.0
      (sym c.first.ensures) c.in_ok-find_at.ensures.found c.in_ok-find_at.ensures.grows c.in_ok-find_at.ensures.here,
  elim c.if-branch.branch [
    | then-branch w ↦ λ none. let never : true ≡ false = sym w.any-is ∙ none in cc
    | else-branch w ↦ λ none. c.in_ok-find_at.ensures.same w.if-branch.false
        ∙ c.loop-place.invariant.1 (sym w.any-is ∙ none)
  ],
  elim c.if-branch.branch [
    | then-branch w ↦ λ any. finds_still _ _ c.loop-place.values.items _ c.loop-place.invariant.0.grows
        (c.in_ok-find_at.ensures.more w.if-branch.true)
    | else-branch w ↦ λ any. finds_later _ _ c.loop-place.values.items _
        (c.loop-place.invariant.2 (sym w.any-is ∙ any)) c.in_ok-find_at.ensures.grows
  ],
  c.in_ok-find_at.ensures.count ∙ c.loop-place.invariant.3,
)

pub returns-clause-round : goal.returns-clause-round
returns-clause-round c =
    all_found _ _ c.args.order.now _ c.loop-place.place-index _ c.requires.rising c.requires.order.listed.all
    c.loop-place-test.false c.loop-place.invariant.0
