-- The codes of what is wrong with a template, as they are printed.
use Rattle.std.specs.Prelude.{ℕ, List, codes}
use Rattle.hot_forms.specs.declared.code.HotCode.{HotCode}
use Rattle.hot_forms.specs.declared.code.HotCode.TheVariants as hot

abbrev pub code_text : HotCode → List ℕ
code_text hot.H01 = codes "H01"
code_text hot.H02 = codes "H02"
code_text hot.H03 = codes "H03"
code_text hot.H04 = codes "H04"
code_text hot.H05 = codes "H05"
code_text hot.H06 = codes "H06"
code_text hot.H07 = codes "H07"
code_text hot.H08 = codes "H08"
code_text hot.H09 = codes "H09"
code_text hot.H10 = codes "H10"
code_text hot.H11 = codes "H11"
code_text hot.H12 = codes "H12"
code_text hot.H13 = codes "H13"
code_text hot.H14 = codes "H14"
code_text hot.H15 = codes "H15"
code_text hot.H16 = codes "H16"
code_text hot.H17 = codes "H17"
code_text hot.H18 = codes "H18"
code_text hot.H19 = codes "H19"
code_text hot.H20 = codes "H20"
code_text hot.H21 = codes "H21"
code_text hot.H22 = codes "H22"
code_text hot.H23 = codes "H23"
code_text hot.H24 = codes "H24"
