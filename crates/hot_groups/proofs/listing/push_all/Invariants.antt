use Rattle.std.proofs.Common.{◌≡◌, drop}
use Rattle.heat_value.specs.Meaning.{nodes_of}
use Rattle.hot_groups.specs.References.{nodes_before}
use Rattle.hot_groups.proofs.listing.push_all.Given as goal

-- what is left goes behind what there is
abbrev pub invariant-loop-value : goal.invariant-loop-value
invariant-loop-value l =
    nodes_before l.fn.all (nodes_of l.values) ≡ nodes_before l.all (nodes_of (drop l.value-index l.values))
