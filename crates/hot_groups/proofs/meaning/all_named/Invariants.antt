use Rattle.std.proofs.Common.{◌≡◌, drop}
use Rattle.heat_value.specs.Meaning.{nodes_of}
use Rattle.hot_groups.specs.References.{all_named, nodes_before}
use Rattle.hot_groups.proofs.meaning.all_named.Given as goal

-- what is left goes behind what there is
abbrev pub invariant-loop-name : goal.invariant-loop-name
invariant-loop-name l =
    all_named l.groups (nodes_of l.names)
    ≡ nodes_before l.all (all_named l.groups (nodes_of (drop l.name-index l.names)))
