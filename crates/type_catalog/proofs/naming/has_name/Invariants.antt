use Rattle.std.proofs.Common.{◌≡◌, drop, map}
use Rattle.type_catalog.specs.Names.{is_listed}
use Rattle.type_catalog.proofs.naming.has_name.Given as goal

-- what is left decides
abbrev pub invariant-loop-one : goal.invariant-loop-one
invariant-loop-one g l =
    is_listed (map g.T.HasName.name_of l.all) l.name
    ≡ is_listed (map g.T.HasName.name_of (drop l.one-index l.all)) l.name
