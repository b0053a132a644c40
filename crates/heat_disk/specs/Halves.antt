-- Two halves, and what belongs to each.
use Rattle.std.specs.Prelude.{ℕ, List}
use Rattle.heat_disk.specs.declared.half.Half.{Half}
use Rattle.heat_disk.specs.declared.half.Half.TheVariants.{First, Second}

-- the bytes of both halves, First's in front
abbrev pub Pair : Type 0
Pair = List ℕ × List ℕ

-- what belongs to this half
abbrev pub part : {A : Type 0} → Half → A × A → A
part First p = p.0
part Second p = p.1

-- what belongs to the other one
abbrev pub beside : {A : Type 0} → Half → A × A → A
beside First p = p.1
beside Second p = p.0

-- this half changed, the other as it is
abbrev pub changed : {A : Type 0} → Half → (A → A) → A × A → A × A
changed First f p = (f p.0, p.1)
changed Second f p = (p.0, f p.1)
