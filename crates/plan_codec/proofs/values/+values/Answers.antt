use Rattle.std.proofs.Common.{rules}
use Rattle.std.proofs.lemmas.Grind.{common_steps}
use Rattle.std.proofs.Common.{arith, inl, inr}
use Rattle.plan_codec.proofs.Readings.{tag_past}
use Rattle.std.proofs.lemmas.Result.{err_from_is_err_and}
use Rattle.heat_value.specs.Meaning.{data_of}
use Rattle.plan_codec.proofs.ValueReadings.{items_refused, fields_refused, no_value, no_inner_items, no_inner_fields, inner_refused, inner_taken}
use Rattle.plan_codec.proofs.ValueLists.{values_begin, values_more, values_refused, values_taken, count_refused}
use Rattle.plan_codec.proofs.ValueLists.{members_begin, members_more, members_refused, members_taken, members_count_refused}
use Rattle.plan_codec.proofs.ValueLists.{key_refused, value_refused, member_taken, map_refused, map_taken, map_falls_if}
use Rattle.plan_codec.proofs.values.+values.Goals.{value_at-in_default-via-then-bytes-lt1, value_at-in_default-via-else-bytes-lt1+in_default-1}
use Rattle.plan_codec.proofs.values.+values.Goals as goal

pub items_value_at-returns-in_err-items-clause-err : goal.items_value_at-returns-in_err-items-clause-err
items_value_at-returns-in_err-items-clause-err t c =
    let p = err_from_is_err_and c.from_residual.result c.from_residual.ensures.1 in
    rw (p.1, p.2) (items_refused c.args.limit c.args.rest.now c.in_err-items.field-0.0 c.in_err-items.ensures.err)

pub fields_value_at-returns-in_err-fields-clause-err : goal.fields_value_at-returns-in_err-fields-clause-err
fields_value_at-returns-in_err-fields-clause-err t c =
    let p = err_from_is_err_and c.from_residual.result c.from_residual.ensures.1 in
    rw (p.1, p.2) (fields_refused c.args.limit c.args.rest.now c.in_err-fields.field-0.0 c.in_err-fields.ensures.err)

pub items_at-returns-in_err-deep-clause-err : goal.items_at-returns-in_err-deep-clause-err
items_at-returns-in_err-deep-clause-err t c =
    let p = err_from_is_err_and c.from_residual.result c.from_residual.ensures.1 in
    rw (p.1, p.2) (no_inner_items c.args.bytes.now c.args.limit c.in_err-deep.field-0.0 c.in_err-deep.ensures.err)

pub items_at-returns-in_err-count-clause-err : goal.items_at-returns-in_err-count-clause-err
items_at-returns-in_err-count-clause-err t c =
    let p = err_from_is_err_and c.from_residual-in_err-count.result c.from_residual-in_err-count.ensures.1 in
    rw (p.1, p.2) (count_refused c.args.bytes.now c.args.limit c.in_err-count.field-0.0 c.in_err-count.ensures.err)

pub items_at-loop-init : goal.items_at-loop-init
items_at-loop-init t c = values_begin c.args.bytes.now c.in_ok-count.rest.now c.in_ok-count.count c.in_ok-deep.deep c.new-all.result c.new-all.ensures c.in_ok-count.ensures.ok

pub items_at-loop-preserved : goal.items_at-loop-preserved
items_at-loop-preserved t c = values_more c.args.bytes.now c.loop.rest.now c.in_ok-value.behind.now c.in_ok-count.count c.loop.counter c.in_ok-deep.deep c.loop.all c.push.new.self (data_of c.in_ok-value.value) c.loop.invariant c.in_ok-value.ensures.ok c.in_ok-push.ensures.ok

pub items_at-returns-in_err-value-clause-err : goal.items_at-returns-in_err-value-clause-err
items_at-returns-in_err-value-clause-err t c =
    let p = err_from_is_err_and c.from_residual-in_err-value.result c.from_residual-in_err-value.ensures.1 in
    rw (p.1, p.2) (values_refused c.args.bytes.now c.loop.rest.now c.in_ok-count.count c.loop.counter c.in_ok-deep.deep c.args.limit c.loop.all c.in_err-value.field-0.0 c.in_ok-deep.ensures.ok c.loop.invariant c.loop-test.true c.in_err-value.ensures.err)

pub items_at-returns-clause-ok : goal.items_at-returns-clause-ok
items_at-returns-clause-ok t c = values_taken c.args.bytes.now c.loop.rest.now c.in_ok-count.count c.loop.counter c.in_ok-deep.deep c.args.limit c.loop.all c.in_ok-deep.ensures.ok c.loop.invariant (omega arith)

pub inner_fields_at-returns-in_err-deep-clause-err : goal.inner_fields_at-returns-in_err-deep-clause-err
inner_fields_at-returns-in_err-deep-clause-err t c =
    let p = err_from_is_err_and c.from_residual.result c.from_residual.ensures.1 in
    rw (p.1, p.2) (no_inner_fields c.args.bytes.now c.args.limit c.in_err-deep.field-0.0 c.in_err-deep.ensures.err)

pub inner_fields_at-returns-in_err-fields-clause-err : goal.inner_fields_at-returns-in_err-fields-clause-err
inner_fields_at-returns-in_err-fields-clause-err t c =
    let p = err_from_is_err_and c.from_residual-in_err-fields.result c.from_residual-in_err-fields.ensures.1 in
    rw (p.1, p.2) (inner_refused c.args.bytes.now c.args.limit c.in_ok-deep.deep c.in_err-fields.field-0.0 c.in_ok-deep.ensures.ok c.in_err-fields.ensures.err)

pub inner_fields_at-returns-clause-ok : goal.inner_fields_at-returns-clause-ok
inner_fields_at-returns-clause-ok t c = inner_taken c.args.bytes.now c.in_ok-fields.rest.now c.args.limit c.in_ok-deep.deep c.in_ok-fields.fields c.in_ok-deep.ensures.ok c.in_ok-fields.ensures.ok

pub fields_at-returns-in_err-members-clause-err : goal.fields_at-returns-in_err-members-clause-err
fields_at-returns-in_err-members-clause-err t c =
    let p = err_from_is_err_and c.from_residual.result c.from_residual.ensures.1 in
    rw (p.1, p.2) (map_refused c.args.bytes.now c.args.limit c.in_err-members.field-0.0 c.in_err-members.ensures.err)

pub fields_at-returns-in_err-props-clause-err : goal.fields_at-returns-in_err-props-clause-err
fields_at-returns-in_err-props-clause-err t c =
    let p = err_from_is_err_and c.from_residual-in_err-props.result c.from_residual-in_err-props.ensures.1 in
    rw (p.1, p.2) (map_falls_if c.args.bytes.now c.in_ok-members.rest.now c.args.limit c.in_ok-members.members.items c.in_err-props.field-0.0 c.in_err-props.ensures.err c.in_ok-members.ensures.ok)

pub fields_at-returns-clause-ok : goal.fields_at-returns-clause-ok
fields_at-returns-clause-ok t c = rw c.in_ok-props.ensures.ok.0 (map_taken c.args.bytes.now c.in_ok-members.rest.now c.args.limit c.in_ok-members.members.items c.in_ok-props.ensures.ok.1 c.in_ok-members.ensures.ok)

pub members_at-returns-in_err-count-clause-err : goal.members_at-returns-in_err-count-clause-err
members_at-returns-in_err-count-clause-err t c =
    let p = err_from_is_err_and c.from_residual.result c.from_residual.ensures.1 in
    rw (p.1, p.2) (members_count_refused c.args.bytes.now c.args.limit c.in_err-count.field-0.0 c.in_err-count.ensures.err)

pub members_at-loop-init : goal.members_at-loop-init
members_at-loop-init t c = members_begin c.args.bytes.now c.in_ok-count.rest.now c.in_ok-count.count c.args.limit c.new-all.result.items c.new-all.ensures.items c.in_ok-count.ensures.ok

pub members_at-loop-preserved : goal.members_at-loop-preserved
members_at-loop-preserved t c = members_more c.args.bytes.now c.loop.rest.now c.in_ok-member.behind.now c.in_ok-count.count c.loop.counter c.args.limit c.loop.all.items c.push.new.self.items c.in_ok-member.member c.loop.invariant c.in_ok-member.ensures.ok c.in_ok-push.ensures.items

pub members_at-returns-in_err-member-clause-err : goal.members_at-returns-in_err-member-clause-err
members_at-returns-in_err-member-clause-err t c =
    let p = err_from_is_err_and c.from_residual-in_err-member.result c.from_residual-in_err-member.ensures.1 in
    rw (p.1, p.2) (members_refused c.args.bytes.now c.loop.rest.now c.in_ok-count.count c.loop.counter c.args.limit c.loop.all.items c.in_err-member.field-0.0 c.loop.invariant c.loop-test.true c.in_err-member.ensures.err)

pub members_at-returns-clause-ok : goal.members_at-returns-clause-ok
members_at-returns-clause-ok t c = members_taken c.args.bytes.now c.loop.rest.now c.in_ok-count.count c.loop.counter c.args.limit c.loop.all.items c.loop.invariant (omega arith)

pub member_at-returns-in_err-key-clause-err : goal.member_at-returns-in_err-key-clause-err
member_at-returns-in_err-key-clause-err t c =
    let p = err_from_is_err_and c.from_residual.result c.from_residual.ensures.1 in
    rw (p.1, p.2) (key_refused c.args.bytes.now c.args.limit c.in_err-key.field-0.0 c.in_err-key.ensures.err)

pub member_at-returns-in_err-value-clause-err : goal.member_at-returns-in_err-value-clause-err
member_at-returns-in_err-value-clause-err t c =
    let p = err_from_is_err_and c.from_residual-in_err-value.result c.from_residual-in_err-value.ensures.1 in
    rw (p.1, p.2) (value_refused c.args.bytes.now c.in_ok-key.rest.now c.args.limit c.in_ok-key.key c.in_err-value.field-0.0 c.in_ok-key.ensures.ok c.in_err-value.ensures.err)

pub member_at-returns-clause-ok : goal.member_at-returns-clause-ok
member_at-returns-clause-ok t c = member_taken c.args.bytes.now c.in_ok-key.rest.now c.in_ok-value.rest.now c.args.limit c.in_ok-key.key (data_of c.in_ok-value.value) c.in_ok-key.ensures.ok c.in_ok-value.ensures.ok

pub value_at-returns-in_default-clause-err : goal.value_at-returns-in_default-clause-err
value_at-returns-in_default-clause-err t c = elim c.in_default.branch [
  | value_at-in_default-via-then-bytes-lt1 w ↦ no_value c.args.limit c.args.bytes.now (tag_past 7 c.args.bytes.now (inl (first_of (search rules, grind (arith, common_steps)))))
  | value_at-in_default-via-else-bytes-lt1+in_default-1 w ↦ no_value c.args.limit c.args.bytes.now (tag_past 7 c.args.bytes.now (inr (omega arith)))
]
