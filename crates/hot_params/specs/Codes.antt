-- The codes of what is wrong with parameters, and where it is.
use Rattle.std.specs.Prelude.{ℕ, List, [], ◌∷◌, Bool, Option, Some, None, codes, if◌then◌else◌}
use Rattle.heat_value.specs.declared.path.Step.TheVariants.{Key, Index}
use Rattle.hot_params.specs.declared.code.ParamCode.{ParamCode}
use Rattle.hot_params.specs.declared.code.ParamCode.TheVariants as code
use Rattle.hot_params.specs.declared.fault.ParamFlaw.{ParamFlaw}

-- a code as it is printed
abbrev pub code_text : ParamCode → List ℕ
code_text code.P01 = codes "P01"
code_text code.P02 = codes "P02"
code_text code.P03 = codes "P03"
code_text code.P04 = codes "P04"
code_text code.P05 = codes "P05"
code_text code.P06 = codes "P06"

-- the code, unless this holds
abbrev pub unless : Bool → ParamCode → Option ParamCode
unless holds c = if holds then None else Some c

-- the code at the parameter of this name
abbrev pub at_parameter : List ℕ → ParamCode → ParamFlaw
at_parameter name c = record { code = c; path = Key (codes "parameters") ∷ Key name ∷ [] }

-- the code at a constraint of the parameter of this name
abbrev pub at_constraint : List ℕ → ℕ → ParamCode → ParamFlaw
at_constraint name i c =
    record { code = c; path = Key (codes "parameters") ∷ Key name ∷ Key (codes "constraints") ∷ Index i ∷ [] }
