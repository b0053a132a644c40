-- What writing changes puts on a sheet.
use Rattle.std.specs.Prelude.{◌≡◌, ◌-◌, ◌^◌, ℕ, List, ◌++◌, All, length, min}
use Rattle.std.specs.List.{flat_map}
use Rattle.core_state.specs.declared.change.Change.{Change}
use Rattle.plan_codec.specs.Numbers.{spelled_number}
use Rattle.plan_codec.specs.Sheets.{SheetData, behind}
use Rattle.row_codec.specs.Changes.{spelled_change, IsProper, IsStorable}

-- the change is proper where a record may hold it
abbrev pub IsKept : Change → Type 0
IsKept c = IsStorable c → IsProper c

-- the changes stand behind whatever was put before, each of them so
pub record HasPut (cs : List Change) (old new : SheetData) : Type 0 where
  pub bytes : (sheet : SheetData) (front : List ℕ) → old ≡ behind sheet front
      → new ≡ behind sheet (front ++ flat_map spelled_change cs)
  pub kept : All IsKept cs

-- the spelling of fewer than 2^64 changes; more are numbered as that many less one
abbrev pub numbered : List Change → List ℕ
numbered cs = spelled_number (min (length cs) (2 ^ 64 - 1)) ++ flat_map spelled_change cs
