use Rattle.std.proofs.Common.{◌+◌, get_or, arith}
use Rattle.std.proofs.lemmas.List.{length-set}
use Rattle.std.proofs.lemmas.Option.{slice_get-get_or}
use Rattle.longest_keys.proofs.FinderLemmas.{one_own, all_own}
use Rattle.longest_keys.proofs.finder.own_of.Goals as goal

pub loop-i-preserved : goal.loop-i-preserved
loop-i-preserved c = (
  omega (arith, length-set c.loop-i.own.items (get_or c.args.ends.now c.loop-i.i 0) (c.loop-i.i + 1), c.loop-i.invariant.0),
  one_own c.args.ends.now c.loop-i.own.items c.loop-i.i (get_or c.args.ends.now c.loop-i.i 0) (c.loop-i.i + 1) (omega arith) (slice_get-get_or c.args.ends.now c.loop-i.i 0 c.loop-i-test.true) c.loop-i.invariant.1,
)

pub returns-clause-each : goal.returns-clause-each
returns-clause-each c = all_own c.args.ends.now c.loop-i.own.items c.loop-i.i c.loop-i-test.false c.loop-i.invariant.1
