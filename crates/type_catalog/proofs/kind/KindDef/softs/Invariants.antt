use Rattle.std.proofs.Common.{◌≡◌, ◌++◌, drop}
use Rattle.type_catalog.specs.Kinds.{softs_of}
use Rattle.type_catalog.proofs.kind.KindDef.softs.Given as goal

-- those so far and those left are all
abbrev pub invariant-loop-prop : goal.invariant-loop-prop
invariant-loop-prop l = l.softs ++ softs_of (drop l.prop-index l.prop-items) ≡ softs_of l.self.props
