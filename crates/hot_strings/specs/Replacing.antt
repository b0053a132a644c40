-- When each fault of a replacement comes.
use Rattle.std.specs.Prelude.{ℕ, Bool, List, IsTrue, ⊤}
use Rattle.heat_value.specs.Data.{words}
use Rattle.hot_strings.specs.Pieces.{Params, IsReplaced, HasEmptyKey, HasNoEmptyKey, LacksSomeKey, HasEveryKey}
use Rattle.hot_strings.specs.Size.{IsLongerThan}
use Rattle.hot_strings.specs.declared.fault.StringFault.{StringFault}
use Rattle.hot_strings.specs.declared.fault.StringFault.TheVariants.{F02, F03, F04, F06, Memory}

-- the result is longer than it may be
abbrev pub IsReplacedLonger : ℕ → Params → List ℕ → Type 0
IsReplacedLonger limit params s = (r : List ℕ) × IsReplaced params s r × IsLongerThan limit (words r)

-- a fault that only the result can have
abbrev pub IsOfReplaced : StringFault → ℕ → Params → List ℕ → Type 0
IsOfReplaced F02 limit params s = ⊥
IsOfReplaced F03 limit params s = ⊥
IsOfReplaced F04 limit params s = ⊥
IsOfReplaced F06 limit params s = IsReplacedLonger limit params s
IsOfReplaced Memory limit params s = ⊤

-- when each fault comes; of two the one above
abbrev pub IsReplaceFault : StringFault → Params → List ℕ → Bool → Type 0
IsReplaceFault F02 params s strict = ⊥
IsReplaceFault F03 params s strict = HasEmptyKey params
IsReplaceFault F04 params s strict = HasNoEmptyKey params × IsTrue strict × LacksSomeKey params s
IsReplaceFault F06 params s strict =
    HasNoEmptyKey params × (IsTrue strict → HasEveryKey params s) × IsReplacedLonger 1048576 params s
IsReplaceFault Memory params s strict = ⊤

-- when each fault of a replacement without results' limit comes
abbrev pub IsWithinFault : StringFault → ℕ → Params → List ℕ → Type 0
IsWithinFault F02 limit params s = ⊥
IsWithinFault F03 limit params s = HasEmptyKey params
IsWithinFault F04 limit params s = ⊥
IsWithinFault F06 limit params s = HasNoEmptyKey params × IsReplacedLonger limit params s
IsWithinFault Memory limit params s = ⊤
