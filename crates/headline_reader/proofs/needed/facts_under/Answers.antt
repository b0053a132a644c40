use Rattle.std.proofs.Common.{sym}
use Rattle.headline_reader.proofs.FactsNeeded.{under_here, under_more, under_none}
use Rattle.headline_reader.proofs.needed.facts_under.Goals as goal

pub returns-in-Some : goal.returns-in-Some
returns-in-Some c =
    sym (under_here c.args.all.now c.args.need.now c.loop-it.it-index c.it-item.result c.in-Some.facts.now
    c.loop-it-test.true c.it-item.is (sym c.in-Some.ensures) c.loop-it.invariant)

pub loop-it-preserved : goal.loop-it-preserved
loop-it-preserved c =
    under_more c.args.all.now c.args.need.now c.loop-it.it-index c.it-item.result c.loop-it-test.true c.it-item.is
    (sym c.in_default.ensures) c.loop-it.invariant

pub returns : goal.returns
returns c =
    sym (under_none c.args.all.now c.args.need.now c.loop-it.it-index c.loop-it-test.false c.loop-it.invariant)
