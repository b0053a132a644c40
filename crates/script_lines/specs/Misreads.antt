-- The codes of what is wrong with a line, and where.
use Rattle.std.specs.Prelude.{ℕ, List, Option, Some, None, codes}
use Rattle.heat_value.specs.declared.path.Step.{Step}
use Rattle.script_lines.specs.declared.misread.Misread.{Misread}
use Rattle.script_lines.specs.declared.misread.Misread.TheVariants.{L01, L02, L03, L04, L05, L06, L07, L08, Memory}

-- the code that a line is noted with; want of memory has none
abbrev pub misread_code : Misread → Option (List ℕ)
misread_code L01 = Some (codes "L01")
misread_code L02 = Some (codes "L02")
misread_code L03 = Some (codes "L03")
misread_code L04 = Some (codes "L04")
misread_code L05 = Some (codes "L05")
misread_code L06 = Some (codes "L06")
misread_code (L07 p) = Some (codes "L07")
misread_code (L08 p) = Some (codes "L08")
misread_code Memory = None

-- the path that is noted with it
abbrev pub misread_path : Misread → Option (List Step)
misread_path L01 = None
misread_path L02 = None
misread_path L03 = None
misread_path L04 = None
misread_path L05 = None
misread_path L06 = None
misread_path (L07 p) = Some p
misread_path (L08 p) = Some p
misread_path Memory = None
