-- The parts of a template.
use Rattle.std.specs.Prelude.{◌≡◌, codes}
use Rattle.heat_value.specs.Data.{Members}
use Rattle.hot_tree.specs.Readings.{entries, AreEach}
use Rattle.hot_tree.specs.PartEntries.{IsParam, IsRes, IsOut}
use Rattle.hot_tree.specs.declared.parts.Parts.{Parts}

-- each entry of the sections, in byte order of the names; an absent section has none
pub record ArePartsOf (template : Members) (p : Parts) : Type 0 where
  pub params : AreEach IsParam (entries (codes "parameters") template) p.params
  pub conds : p.conds ≡ entries (codes "conditions") template
  pub resources : AreEach IsRes (entries (codes "resources") template) p.resources
  pub outputs : AreEach IsOut (entries (codes "outputs") template) p.outputs
