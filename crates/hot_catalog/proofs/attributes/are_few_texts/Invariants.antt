use Rattle.std.proofs.Common.{◌≡◌, ◌≤◌, drop, length}
use Rattle.heat_value.specs.Data.{no_members, keys_of}
use Rattle.heat_value.specs.Meaning.{nodes_of}
use Rattle.hot_catalog.specs.Definitions.{with_texts}
use Rattle.hot_catalog.proofs.attributes.are_few_texts.Given as goal

-- those left, put to those so far, are all; so far there are few
abbrev pub invariant-loop-value : goal.invariant-loop-value
invariant-loop-value l =
    (with_texts (nodes_of (drop l.value-index l.value-items)) l.names ≡ with_texts l.items no_members)
    × (length (keys_of l.names) ≤ 64)
