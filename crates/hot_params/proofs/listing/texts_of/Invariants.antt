use Rattle.std.proofs.Common.{◌≡◌, drop}
use Rattle.heat_value.specs.Meaning.{nodes_of}
use Rattle.hot_params.specs.Conversions.{texts_of}
use Rattle.hot_params.proofs.Lists.{joined_nodes}
use Rattle.hot_params.proofs.listing.texts_of.Given as goal

-- those so far and those left are all
abbrev pub invariant-loop-value : goal.invariant-loop-value
invariant-loop-value l =
    joined_nodes l.texts (texts_of (nodes_of (drop l.value-index l.value-items))) ≡ texts_of l.items
