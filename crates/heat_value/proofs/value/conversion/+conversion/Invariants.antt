use Rattle.std.proofs.Common.{◌≡◌, ◌++◌, take, drop, map}
use Rattle.serde_json.specs.View.{view, items_view, members_view}
use Rattle.heat_value.specs.Reading.{items_bad, members_bad}
use Rattle.heat_value.proofs.Conversions.{value_json, own_json, member_json}
use Rattle.heat_value.proofs.value.conversion.+conversion.Given as goal

-- the items so far are taken over, and no bad number stands in them
abbrev pub invariant-converted_items-loop-i : goal.invariant-converted_items-loop-i
invariant-converted_items-loop-i l =
    (map value_json l.all.items ≡ map view (take l.i l.items.items)) ×
    (items_bad 0 (items_view l.items.items) ≡ items_bad l.i (items_view (drop l.i l.items.items)))

-- the members so far and those that are left are all, and no bad number stands in those so far
abbrev pub invariant-converted_members-loop-key : goal.invariant-converted_members-loop-key
invariant-converted_members-loop-key l =
    (goal.iterator-converted_members-loop-key).can_next l.key-iterator ×
    (goal.iterator-converted_members-loop-key).is_finite l.key-iterator ×
    (map own_json l.taken.items ++ map member_json l.key-iterator ≡ map member_json l.members.entries) ×
    (members_bad (members_view l.members.entries) ≡ members_bad (members_view l.key-iterator))
