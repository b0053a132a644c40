use Rattle.std.proofs.Common.{◌<◌, ◌+◌, ℕ, length, get_or, true, arith}
use Rattle.std.proofs.lemmas.List.{length-set}
use Rattle.std.proofs.lemmas.Option.{slice_get-get_or}
use Rattle.longest_keys.proofs.MarkLemmas.{one_marked, all_marked}
use Rattle.longest_keys.proofs.marking.mark_states.Goals as goal

pub loop-i-preserved : goal.loop-i-preserved
loop-i-preserved c =
    let q : ℕ = get_or c.args.states.now c.loop-i.i 0 in
    let within : q < length c.args.marks.now.items = c.requires.within c.loop-i.i 0 c.loop-i-test.true in (
      omega (arith, c.loop-i.invariant.0, length-set c.loop-i.marks.items q true),
      one_marked c.args.states.now c.loop-i.marks.items c.loop-i.i (c.loop-i.i + 1) q (omega arith) (omega (arith, within, c.loop-i.invariant.0))
          (slice_get-get_or c.args.states.now c.loop-i.i 0 c.loop-i-test.true) c.loop-i.invariant.1,
    )

pub returns-clause-marked : goal.returns-clause-marked
returns-clause-marked c = all_marked c.args.states.now c.loop-i.marks.items c.loop-i.i c.loop-i-test.false c.loop-i.invariant.1
