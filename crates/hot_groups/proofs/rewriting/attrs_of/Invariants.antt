use Rattle.std.proofs.Common.{◌≡◌, take}
use Rattle.heat_value.specs.Data.{node, words}
use Rattle.heat_value.specs.Meaning.{nodes_of}
use Rattle.hot_groups.specs.References.{each_node, attr_of}
use Rattle.hot_groups.proofs.rewriting.attrs_of.Given as goal

-- those of the first names
abbrev pub invariant-loop-name : goal.invariant-loop-name
invariant-loop-name l =
    l.all ≡ each_node (attr_of (node (words l.attribute) (nodes_of l.path))) (nodes_of (take l.name-index l.roster))
