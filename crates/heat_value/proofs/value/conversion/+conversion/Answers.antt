use Rattle.std.proofs.Common.{◌≡◌, ◌∙◌, sym, ap, map, take, [], length, string_bytes, append-nil, arith}
use Rattle.std.proofs.Math.Seq.{take-length}
use Rattle.std.proofs.lemmas.Map.Iter.{rest_all}
use Rattle.std.specs.Map.Iter.{deref_pair}
use Rattle.std.specs.Ordering.{nat_cmp}
use Rattle.std.specs.Cmp.Lexicographic.{slice_cmp}
use Rattle.serde_json.specs.View.{view}
use Rattle.heat_value.proofs.Conversions.{json_items-nodes_of, json_members-members_of, keys_of-from_members, sorted-map, own_json, member_json}
use Rattle.heat_value.proofs.value.conversion.+conversion.Goals as goal

pub converted_items-returns-clause-ok : goal.converted_items-returns-clause-ok
converted_items-returns-clause-ok t c =
    let end : c.loop-i.i ≡ length c.args.items.now.items = omega arith in
    let whole : take c.loop-i.i c.args.items.now.items ≡ c.args.items.now.items = rw end (take-length _) in
    json_items-nodes_of _ _ (c.loop-i.invariant.0 ∙ ap (map view) whole)

pub converted_members-invariant_of-result : goal.converted_members-invariant_of-result
converted_members-invariant_of-result t c =
    let done : c.loop-key.key-iterator ≡ [] = rest_all deref_pair _ _ _ c.in-None.is c.next.ensures.steps in
    let all : map own_json c.loop-key.taken.items ≡ map member_json c.args.members.now.entries = sym (append-nil _) ∙ (rw done at c.loop-key.invariant.2) in
    rw (keys_of-from_members _ _ all) (sorted-map string_bytes (slice_cmp nat_cmp) _ c.iter-key-items.ensures.ordered)

pub converted_members-returns-clause-ok : goal.converted_members-returns-clause-ok
converted_members-returns-clause-ok t c =
    let done : c.loop-key.key-iterator ≡ [] = rest_all deref_pair _ _ _ c.in-None.is c.next.ensures.steps in
    json_members-members_of _ _ (sym (append-nil _) ∙ (rw done at c.loop-key.invariant.2))
