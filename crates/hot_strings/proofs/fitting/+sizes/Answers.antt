use Rattle.std.proofs.Common.{◌+◌, ◌<◌, length, arith}
use Rattle.heat_value.specs.Compact.{compact}
use Rattle.heat_value.specs.Meaning.{data_of}
use Rattle.hot_strings.proofs.Weights.{min-saturating, length-nodes_text-drop, length-fields_text-drop}
use Rattle.json.specs.Print.{quoted}
use Rattle.hot_strings.proofs.fitting.+sizes.Goals as goal

pub list_size-loop-value-preserved : goal.list_size-loop-value-preserved
list_size-loop-value-preserved t c =
    let n = c.loop-value.invariant.0 in
    let below : c.loop-value.value-index < length c.args.values.now = omega arith in (
      n + 1 + length (compact (data_of c.value-item.result)),
      min-saturating c.loop-value.size c.saturating_add.result c.value_size.result c.saturating_add-size.result n (length (compact (data_of c.value-item.result)))
          c.loop-value.invariant.1 c.saturating_add.ensures c.value_size.ensures c.saturating_add-size.ensures,
      omega (arith, c.loop-value.invariant.2, length-nodes_text-drop c.args.values.now c.loop-value.value-index c.value-item.result below c.value-item.is),
    )

pub map_size-loop-member-preserved : goal.map_size-loop-member-preserved
map_size-loop-member-preserved t c =
    let n = c.loop-member.invariant.0 in
    let below : c.loop-member.member-index < length c.args.members.now = omega arith in (
      n + 1 + (length (quoted c.member-item.result.key) + 1 + length (compact (data_of c.member-item.result.value))),
      min-saturating c.loop-member.size c.saturating_add.result c.member_size.result c.saturating_add-size.result n
          (length (quoted c.member-item.result.key) + 1 + length (compact (data_of c.member-item.result.value)))
          c.loop-member.invariant.1 c.saturating_add.ensures c.member_size.ensures c.saturating_add-size.ensures,
      omega (arith, c.loop-member.invariant.2, length-fields_text-drop c.args.members.now c.loop-member.member-index c.member-item.result below c.member-item.is),
    )
