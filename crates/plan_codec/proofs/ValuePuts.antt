-- What stands on a sheet once all values of a list, or all members of a map, were put.
use Rattle.std.proofs.Common.{◌≡◌, ◌∙◌, ◌<◌, ◌^◌, ◌++◌, List, sym, arith, length}
use Rattle.std.specs.List.{flat_map}
use Rattle.heat_value.specs.Meaning.{nodes_of, members_of}
use Rattle.heat_value.specs.declared.value.Value.{Value}
use Rattle.heat_value.specs.declared.value.Member.{Member}
use Rattle.plan_codec.specs.Numbers.{spelled_number, IsWord}
use Rattle.plan_codec.specs.Sheets.{SheetData, behind}
use Rattle.plan_codec.specs.Values.{spelled_items, spelled_fields, nodes_count, members_count}
use Rattle.plan_codec.specs.ValueLaws.{of_value, of_member, nodes_count-nodes_of, members_count-members_of}
use Rattle.plan_codec.specs.ValueLaws.{spelled_nodes-nodes_of, spelled_members-members_of}

pub items_put : (vs : List Value) (old new : SheetData) → new ≡ behind old (spelled_number (length vs) ++ flat_map of_value vs) → new ≡ behind old (spelled_items (nodes_of vs))
items_put vs old new so =
    so ∙ (λ i. behind old (spelled_number (sym (nodes_count-nodes_of vs) i) ++ spelled_nodes-nodes_of vs i))

pub fields_put : (ms : List Member) (old new : SheetData) → new ≡ behind old (spelled_number (length ms) ++ flat_map of_member ms) → new ≡ behind old (spelled_fields (members_of ms))
fields_put ms old new so =
    so ∙ (λ i. behind old (spelled_number (sym (members_count-members_of ms) i) ++ spelled_members-members_of ms i))

pub few_values : (vs : List Value) → IsWord (length vs) → nodes_count (nodes_of vs) < 2 ^ 64
few_values vs h = omega (arith, h, nodes_count-nodes_of vs)

pub few_members : (ms : List Member) → IsWord (length ms) → members_count (members_of ms) < 2 ^ 64
few_members ms h = omega (arith, h, members_count-members_of ms)
