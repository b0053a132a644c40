use Rattle.std.proofs.Common.{◌≡◌, drop}
use Rattle.heat_value.specs.Data.{no_members}
use Rattle.heat_value.specs.Meaning.{nodes_of}
use Rattle.hot_catalog.specs.Definitions.{with_texts}
use Rattle.hot_catalog.proofs.attributes.with_texts.Given as goal

-- those left, put to those so far, are all
abbrev pub invariant-loop-value : goal.invariant-loop-value
invariant-loop-value l =
    with_texts (nodes_of (drop l.value-index l.value-items)) l.names ≡ with_texts l.items no_members
