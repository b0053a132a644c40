-- The first that has something to do, none before which had.
use Rattle.std.proofs.Common.{arith, subst, sym}
use Rattle.core_state.specs.State.{StateData}
use Rattle.step_relation.specs.Nexts.{IsIdle}
use Rattle.driver.proofs.Resting.{first_seen, none_seen, seen_more}
use Rattle.driver.proofs.next.first_from.Goals as goal
use Rattle.driver.proofs.next.first_from.Goals.{else-from-get-via-then-from-get+else-not-is_idle}
use Rattle.driver.proofs.next.first_from.Goals.{else-from-get-via-else-from-get}

pub returns-then-not-is_idle-clause-some : goal.returns-then-not-is_idle-clause-some
returns-then-not-is_idle-clause-some g c =
    first_seen c.args.book.now.state c.args.from c.live-e-items.result.now c.loop-e.e-index
    c.e-item.result c.live-e-items.ensures.value c.live-e-items.ensures.rising c.loop-e-test.true c.e-item.is
    (let le = c.if-from-get.true in let is = c.get.ensures.value in omega (arith, le, is))
    (subst (λ (s : StateData). ¬ IsIdle s c.e-item.result) c.state.ensures c.if-not-is_idle.ensures.no_)
    c.loop-e.invariant

pub returns-then-not-is_idle-clause-drawn : goal.returns-then-not-is_idle-clause-drawn
returns-then-not-is_idle-clause-drawn g c = c.live-e-items.ensures.drawn c.e-item.result
    (c.loop-e.e-index, c.loop-e-test.true, sym c.e-item.is)

pub loop-e-preserved : goal.loop-e-preserved
loop-e-preserved g c = seen_more c.args.book.now.state c.args.from c.live-e-items.result.now c.loop-e.e-index
    c.e-item.result
    c.loop-e-test.true c.e-item.is c.loop-e.invariant (elim c.else-from-get.branch [
      | else-from-get-via-then-from-get+else-not-is_idle w ↦
          (λ le. subst (λ (s : StateData). IsIdle s c.e-item.result) w.state.ensures
          w.if-not-is_idle.ensures.yes)
      | else-from-get-via-else-from-get w ↦
          (λ le. let not = w.if-from-get.false in let is = c.get.ensures.value in absurd (omega (arith, le, not, is)))
    ])

pub returns-clause-none : goal.returns-clause-none
returns-clause-none g c = λ none. none_seen c.args.book.now.state c.args.from c.live-e-items.result.now c.loop-e.e-index
    c.live-e-items.ensures.value (let end = c.loop-e-test.false in omega (arith, end)) c.loop-e.invariant
