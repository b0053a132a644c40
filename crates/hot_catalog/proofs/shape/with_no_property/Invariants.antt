use Rattle.std.proofs.Common.{◌≡◌, drop}
use Rattle.heat_value.specs.Meaning.{members_of}
use Rattle.hot_catalog.specs.Flaws.{with_no_property}
use Rattle.hot_catalog.proofs.shape.with_no_property.Given as goal

-- what is left decides
abbrev pub invariant-loop-prop : goal.invariant-loop-prop
invariant-loop-prop l = with_no_property l.props ≡ with_no_property (members_of (drop l.prop-index l.prop-items))
