-- The names of parameters, conditions, resources and outputs.
use Rattle.std.specs.Prelude.{ℕ, List, Bool, ◌&&◌, ◌||◌, ◌==◌, nat_lt, nat_le, length, Option}
use Rattle.std.specs.List.{list_all}
use Rattle.std.specs.Char.{is_ascii_alphanumeric}
use Rattle.hot_forms.specs.Checks.{unless}
use Rattle.hot_forms.specs.declared.code.HotCode.TheVariants.{H07}
use Rattle.hot_forms.specs.declared.flaw.Flaw.{Flaw}

-- a letter, a digit, `_`, `.` or `-`
abbrev pub is_name_byte : ℕ → Bool
is_name_byte b = is_ascii_alphanumeric b || b == 95 || b == 46 || b == 45

-- 1 to 255 such bytes
abbrev pub is_name : List ℕ → Bool
is_name s = nat_lt 0 (length s) && nat_le (length s) 255 && list_all is_name_byte s

-- H07: a name is off its grammar
abbrev pub misnamed : List ℕ → Option Flaw
misnamed s = unless (is_name s) H07
