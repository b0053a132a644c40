use Rattle.std.proofs.Common.{arith, length}
use Rattle.plan_codec.specs.Numbers.{spelled_number}
use Rattle.plan_codec.proofs.Sheets.{one_further, none_yet, all_put, one_more_proper, all_proper}
use Rattle.row_codec.specs.Changes.{spelled_change}
use Rattle.row_codec.proofs.PayloadLemmas.{IsKept, each_proper}
use Rattle.row_codec.proofs.payloads.put_changes.Goals as goal

pub loop-ready-init : goal.loop-ready-init
loop-ready-init c = record {
  so = none_yet spelled_change (spelled_number (length c.args.changes.now)) c.args.changes.now c.args.sheet.now c.put_number.new.sheet c.put_number.ensures.bytes;
  each = λ k d less. absurd (omega (arith, less));
}

pub loop-ready-preserved : goal.loop-ready-preserved
loop-ready-preserved c = record {
  so = one_further spelled_change (spelled_number (length c.args.changes.now)) c.args.changes.now c.loop-ready.ready-index c.ready-item.result c.args.sheet.now c.loop-ready.sheet c.put_change.new.sheet c.loop-ready-test.true c.ready-item.is c.loop-ready.invariant.so (rw (← c.change.ensures) c.put_change.ensures.bytes);
  each = one_more_proper IsKept c.args.changes.now c.loop-ready.ready-index c.ready-item.result c.loop-ready-test.true c.ready-item.is c.loop-ready.invariant.each (rw (← c.change.ensures) c.put_change.ensures.proper);
}

pub returns-clause-bytes : goal.returns-clause-bytes
returns-clause-bytes c = all_put spelled_change (spelled_number (length c.args.changes.now)) c.args.changes.now c.loop-ready.ready-index c.args.sheet.now c.loop-ready.sheet c.loop-ready-test.false c.loop-ready.invariant.so

pub returns-clause-proper : goal.returns-clause-proper
returns-clause-proper c = λ may. (c.put_number.ensures.word, each_proper c.args.changes.now (all_proper IsKept c.args.changes.now c.loop-ready.ready-index c.loop-ready-test.false c.loop-ready.invariant.each) may)
