use Rattle.std.proofs.Common.{arith, length}
use Rattle.std.proofs.lemmas.List.Elements.{recursion_from_All}
use Rattle.plan_codec.specs.Numbers.{spelled_number}
use Rattle.plan_codec.specs.ValueLaws.{of_value, is_value, of_member, is_member}
use Rattle.plan_codec.specs.ValueLaws.{are_values-nodes_of, are_members-members_of}
use Rattle.plan_codec.proofs.Sheets.{one_further, none_yet, all_put, one_more_proper, all_proper}
use Rattle.plan_codec.proofs.ValuePuts.{items_put, fields_put, few_values, few_members}
use Rattle.plan_codec.proofs.value_puts.+putting.Goals as goal

pub put_values-loop-value-init : goal.put_values-loop-value-init
put_values-loop-value-init t c = record {
  so = none_yet of_value (spelled_number (length c.args.values.now)) c.args.values.now c.args.sheet.now c.put_number.new.sheet c.put_number.ensures.bytes;
  each = λ k d less. absurd (omega (arith, less));
}

pub put_values-loop-value-preserved : goal.put_values-loop-value-preserved
put_values-loop-value-preserved t c = record {
  so = one_further of_value (spelled_number (length c.args.values.now)) c.args.values.now c.loop-value.value-index c.value-item.result c.args.sheet.now c.loop-value.sheet c.put_value.new.sheet c.loop-value-test.true c.value-item.is c.loop-value.invariant.so c.put_value.ensures.bytes;
  each = one_more_proper is_value c.args.values.now c.loop-value.value-index c.value-item.result c.loop-value-test.true c.value-item.is c.loop-value.invariant.each c.put_value.ensures.proper;
}

pub put_values-returns-clause-bytes : goal.put_values-returns-clause-bytes
put_values-returns-clause-bytes t c = items_put c.args.values.now c.args.sheet.now c.loop-value.sheet
    (all_put of_value (spelled_number (length c.args.values.now)) c.args.values.now c.loop-value.value-index c.args.sheet.now c.loop-value.sheet c.loop-value-test.false c.loop-value.invariant.so)

pub put_values-returns-clause-count : goal.put_values-returns-clause-count
put_values-returns-clause-count t c = few_values c.args.values.now c.put_number.ensures.word

pub put_values-returns-clause-proper : goal.put_values-returns-clause-proper
put_values-returns-clause-proper t c = are_values-nodes_of c.args.values.now (recursion_from_All is_value c.args.values.now
    (all_proper is_value c.args.values.now c.loop-value.value-index c.loop-value-test.false c.loop-value.invariant.each))

pub put_members-loop-member-init : goal.put_members-loop-member-init
put_members-loop-member-init t c = record {
  so = none_yet of_member (spelled_number (length c.args.members.now)) c.args.members.now c.args.sheet.now c.put_number.new.sheet c.put_number.ensures.bytes;
  each = λ k d less. absurd (omega (arith, less));
}

pub put_members-loop-member-preserved : goal.put_members-loop-member-preserved
put_members-loop-member-preserved t c = record {
  so = one_further of_member (spelled_number (length c.args.members.now)) c.args.members.now c.loop-member.member-index c.member-item.result c.args.sheet.now c.loop-member.sheet c.put_member.new.sheet c.loop-member-test.true c.member-item.is c.loop-member.invariant.so c.put_member.ensures.bytes;
  each = one_more_proper is_member c.args.members.now c.loop-member.member-index c.member-item.result c.loop-member-test.true c.member-item.is c.loop-member.invariant.each c.put_member.ensures.proper;
}

pub put_members-returns-clause-bytes : goal.put_members-returns-clause-bytes
put_members-returns-clause-bytes t c = fields_put c.args.members.now c.args.sheet.now c.loop-member.sheet
    (all_put of_member (spelled_number (length c.args.members.now)) c.args.members.now c.loop-member.member-index c.args.sheet.now c.loop-member.sheet c.loop-member-test.false c.loop-member.invariant.so)

pub put_members-returns-clause-count : goal.put_members-returns-clause-count
put_members-returns-clause-count t c = few_members c.args.members.now c.put_number.ensures.word

pub put_members-returns-clause-proper : goal.put_members-returns-clause-proper
put_members-returns-clause-proper t c = are_members-members_of c.args.members.now (recursion_from_All is_member c.args.members.now
    (all_proper is_member c.args.members.now c.loop-member.member-index c.loop-member-test.false c.loop-member.invariant.each))
