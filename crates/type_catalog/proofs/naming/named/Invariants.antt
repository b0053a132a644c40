use Rattle.std.proofs.Common.{◌≡◌, drop}
use Rattle.type_catalog.specs.Names.{named}
use Rattle.type_catalog.proofs.naming.named.Given as goal

-- what is left decides
abbrev pub invariant-loop-one : goal.invariant-loop-one
invariant-loop-one g l =
    named g.T.HasName.name_of l.name l.all ≡ named g.T.HasName.name_of l.name (drop l.one-index l.all)
