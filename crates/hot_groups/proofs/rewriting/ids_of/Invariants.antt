use Rattle.std.proofs.Common.{◌≡◌, take}
use Rattle.heat_value.specs.Meaning.{nodes_of}
use Rattle.hot_groups.specs.References.{each_node, id_of}
use Rattle.hot_groups.proofs.rewriting.ids_of.Given as goal

-- those of the first names
abbrev pub invariant-loop-name : goal.invariant-loop-name
invariant-loop-name l = l.all ≡ each_node id_of (nodes_of (take l.name-index l.roster))
