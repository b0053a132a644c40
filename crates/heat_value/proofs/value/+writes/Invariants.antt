use Rattle.std.proofs.Common.{string_bytes, ◌≡◌, ◌++◌, drop, false}
use Rattle.heat_value.specs.Compact.{nodes_text, fields_text}
use Rattle.heat_value.specs.Meaning.{nodes_of, members_of}
use Rattle.heat_value.proofs.value.+writes.Given as goal

-- what is written and the text of what is left
abbrev pub invariant-Items::write-loop-value : goal.invariant-Items::write-loop-value
invariant-Items::write-loop-value l =
    string_bytes l.out ++ nodes_text l.later (nodes_of (drop l.value-index l.value-items)) ≡ string_bytes l.fn.out ++ nodes_text false (nodes_of l.value-items)

abbrev pub invariant-Props::write-loop-member : goal.invariant-Props::write-loop-member
invariant-Props::write-loop-member l =
    string_bytes l.out ++ fields_text l.later (members_of (drop l.member-index l.member-items)) ≡ string_bytes l.fn.out ++ fields_text false (members_of l.member-items)
