use Rattle.std.proofs.Common.{◌≡◌, drop}
use Rattle.heat_value.specs.Meaning.{nodes_of}
use Rattle.hot_forms.specs.Shapes.{are_texts}
use Rattle.hot_catalog.proofs.shape.are_texts.Given as goal

-- what is left decides
abbrev pub invariant-loop-value : goal.invariant-loop-value
invariant-loop-value l = are_texts l.items ≡ are_texts (nodes_of (drop l.value-index l.value-items))
