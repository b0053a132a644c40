use Rattle.std.proofs.Common.{map, take}
use Rattle.heat_value.specs.Meaning.{members_of}
use Rattle.hot_admit.specs.Naming.{AddsNames}
use Rattle.hot_admit.proofs.names.add_names.Given as goal

-- the edges of the first names are added
abbrev pub invariant-loop-name : goal.invariant-loop-name
invariant-loop-name l =
    AddsNames (members_of l.conds) (map (λ t. t.now) (take l.name-index l.names)) l.after l.initial.graph l.graph
