use Rattle.std.proofs.Common.{◌≡◌, drop}
use Rattle.std.specs.List.{list_all}
use Rattle.heat_value.specs.Meaning.{nodes_of}
use Rattle.hot_params.specs.Rules.{texts_among}
use Rattle.type_catalog.specs.Names.{is_listed}
use Rattle.hot_params.proofs.constraint.items_are_true.Given as goal

-- what is left decides
abbrev pub invariant-loop-value : goal.invariant-loop-value
invariant-loop-value g l =
    list_all (is_listed l.custom.test.allowed) (texts_among l.items)
    ≡ list_all (is_listed l.custom.test.allowed) (texts_among (nodes_of (drop l.value-index l.value-items)))
