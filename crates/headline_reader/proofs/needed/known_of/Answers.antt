use Rattle.std.proofs.Common.{sym}
use Rattle.headline_reader.proofs.FactsNeeded.{known_all, known_more, known_none}
use Rattle.headline_reader.proofs.needed.known_of.Goals as goal

pub returns-in-None : goal.returns-in-None
returns-in-None c =
    sym (known_none c.args.all.now c.args.needs.now c.loop-need.need-index c.need-item.result c.loop-need.known
    c.loop-need-test.true c.need-item.is (sym c.in-None.ensures) c.loop-need.invariant)

pub loop-need-preserved : goal.loop-need-preserved
loop-need-preserved c = rw (c.in_ok-push-in-Some.ensures.ok, c.in_ok-known_facts-in-Some.ensures)
    (known_more c.args.all.now c.args.needs.now c.loop-need.need-index c.need-item.result c.in-Some.facts.now
    c.loop-need.known c.loop-need-test.true c.need-item.is (sym c.in-Some.ensures) c.loop-need.invariant)

pub returns : goal.returns
returns c =
    sym (known_all c.args.all.now c.args.needs.now c.loop-need.need-index c.loop-need.known c.loop-need-test.false
    c.loop-need.invariant)
