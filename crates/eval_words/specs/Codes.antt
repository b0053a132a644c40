-- The codes' texts.
use Rattle.std.specs.Prelude.{ℕ, List, codes}
use Rattle.eval_words.specs.declared.code.FaultCode.{FaultCode}
use Rattle.eval_words.specs.declared.code.FaultCode.TheVariants.{F01, F02, F03, F04, F05, F06, F07}

-- the code as it is written, such as `F01`
abbrev pub code_text : FaultCode → List ℕ
code_text F01 = codes "F01"
code_text F02 = codes "F02"
code_text F03 = codes "F03"
code_text F04 = codes "F04"
code_text F05 = codes "F05"
code_text F06 = codes "F06"
code_text F07 = codes "F07"
