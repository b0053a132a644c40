use Rattle.std.proofs.Common.{arith, length}
use Rattle.plan_codec.specs.Numbers.{spelled_number}
use Rattle.plan_codec.proofs.Sheets.{one_further, none_yet, all_put, one_more_proper, all_proper}
use Rattle.plan_codec.proofs.lists.put_items.Goals as goal

pub loop-item-init : goal.loop-item-init
loop-item-init g c = record {
  so = none_yet g.T.Readable.spelled (spelled_number (length c.args.items.now)) c.args.items.now c.args.sheet.now
      c.put_number.new.sheet c.put_number.ensures.bytes;
  each = λ k d less. absurd (omega (arith, less));
}

pub loop-item-preserved : goal.loop-item-preserved
loop-item-preserved g c = record {
  so = one_further g.T.Readable.spelled (spelled_number (length c.args.items.now)) c.args.items.now
      c.loop-item.item-index c.item-item.result c.args.sheet.now c.loop-item.sheet c.put.new.sheet
      c.loop-item-test.true c.item-item.is c.loop-item.invariant.so c.put.ensures.bytes;
  each = one_more_proper g.T.Readable.proper c.args.items.now c.loop-item.item-index c.item-item.result
      c.loop-item-test.true c.item-item.is c.loop-item.invariant.each c.put.ensures.proper;
}

pub returns-clause-bytes : goal.returns-clause-bytes
returns-clause-bytes g c = all_put g.T.Readable.spelled (spelled_number (length c.args.items.now)) c.args.items.now
    c.loop-item.item-index c.args.sheet.now c.loop-item.sheet c.loop-item-test.false c.loop-item.invariant.so

pub returns-clause-proper : goal.returns-clause-proper
returns-clause-proper g c = (
  c.put_number.ensures.word,
  all_proper g.T.Readable.proper c.args.items.now c.loop-item.item-index
      c.loop-item-test.false c.loop-item.invariant.each,
)
