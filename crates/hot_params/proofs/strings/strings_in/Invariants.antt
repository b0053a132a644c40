use Rattle.std.proofs.Common.{◌≡◌, ◌++◌, drop}
use Rattle.heat_value.specs.Meaning.{nodes_of}
use Rattle.hot_params.specs.Strings.{strings_among}
use Rattle.hot_params.proofs.strings.strings_in.Given as goal

-- those so far and those left are all
abbrev pub invariant-loop-value : goal.invariant-loop-value
invariant-loop-value l =
    l.strings.items ++ strings_among (nodes_of (drop l.value-index l.value-items)) ≡ strings_among l.values
