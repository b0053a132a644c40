-- How many kinds a line leaves as they are.
use Rattle.std.specs.Prelude.{ℕ, suc, List, [], ◌∷◌, is_some, if◌then◌else◌}
use Rattle.heat_value.specs.Data.{Members, lookup}
use Rattle.type_catalog.specs.declared.kind.KindDef.{KindDef}

-- how many of the kinds no member names
abbrev pub others : Members → List KindDef → ℕ
others ms [] = 0
others ms (k ∷ ks) = if is_some (lookup k.name ms) then others ms ks else suc (others ms ks)
