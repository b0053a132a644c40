use Rattle.std.proofs.Common.{◌≡◌, ◌↔◌, drop}
use Rattle.type_catalog.specs.Kinds.{softs_of}
use Rattle.type_catalog.proofs.kind.KindDef.has_softs.Given as goal

-- what is left decides
abbrev pub invariant-loop-prop : goal.invariant-loop-prop
invariant-loop-prop l = (softs_of l.self.props ≡ l.softs) ↔ (softs_of (drop l.prop-index l.prop-items) ≡ l.rest)
