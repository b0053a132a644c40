use Rattle.std.proofs.Common.{◌≡◌, drop}
use Rattle.heat_value.specs.Meaning.{nodes_of}
use Rattle.hot_groups.specs.References.{is_named}
use Rattle.hot_groups.proofs.rewriting.is_named.Given as goal

-- what is left decides
abbrev pub invariant-loop-value : goal.invariant-loop-value
invariant-loop-value l = is_named l.name (nodes_of l.roster) ≡ is_named l.name (nodes_of (drop l.value-index l.roster))
