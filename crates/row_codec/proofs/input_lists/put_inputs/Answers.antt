use Rattle.std.proofs.Common.{arith, length}
use Rattle.plan_codec.specs.Numbers.{spelled_number}
use Rattle.plan_codec.proofs.Sheets.{one_further, none_yet, all_put, one_more_proper, all_proper}
use Rattle.row_codec.specs.Records.{spelled_input, IsProperInput}
use Rattle.row_codec.proofs.input_lists.put_inputs.Goals as goal

pub loop-input-init : goal.loop-input-init
loop-input-init c = record {
  so = none_yet spelled_input (spelled_number (length c.args.inputs.now)) c.args.inputs.now c.args.sheet.now
      c.put_number.new.sheet c.put_number.ensures.bytes;
  each = λ k d less. absurd (omega (arith, less));
}

pub loop-input-preserved : goal.loop-input-preserved
loop-input-preserved c = record {
  so = one_further spelled_input (spelled_number (length c.args.inputs.now)) c.args.inputs.now
      c.loop-input.input-index c.input-item.result c.args.sheet.now c.loop-input.sheet c.put_input.new.sheet
      c.loop-input-test.true c.input-item.is c.loop-input.invariant.so (rw (← c.input.ensures) c.put_input.ensures.bytes);
  each = one_more_proper IsProperInput c.args.inputs.now c.loop-input.input-index c.input-item.result
      c.loop-input-test.true c.input-item.is c.loop-input.invariant.each (rw (← c.input.ensures) c.put_input.ensures.proper);
}

pub returns-clause-bytes : goal.returns-clause-bytes
returns-clause-bytes c = all_put spelled_input (spelled_number (length c.args.inputs.now)) c.args.inputs.now
    c.loop-input.input-index c.args.sheet.now c.loop-input.sheet c.loop-input-test.false c.loop-input.invariant.so

pub returns-clause-proper : goal.returns-clause-proper
returns-clause-proper c = (
  c.put_number.ensures.word,
  all_proper IsProperInput c.args.inputs.now c.loop-input.input-index c.loop-input-test.false
      c.loop-input.invariant.each,
)
