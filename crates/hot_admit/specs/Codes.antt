-- Codes with the paths of what they speak of; of a list of checks the first that gives one counts.
use Rattle.std.specs.Prelude.{ℕ, List, [], ◌∷◌, Option, Some, None, codes}
use Rattle.std.specs.Option.{option_or}
use Rattle.heat_value.specs.declared.path.Step.{Step}
use Rattle.hot_admit.specs.declared.code.AdmitCode.{AdmitCode}
use Rattle.hot_admit.specs.declared.code.AdmitCode.TheVariants as code
use Rattle.hot_admit.specs.declared.fault.AdmitFlaw.{AdmitFlaw}

-- a code as it is printed
abbrev pub code_text : AdmitCode → List ℕ
code_text code.C01 = codes "C01"
code_text code.C02 = codes "C02"
code_text code.A01 = codes "A01"
code_text code.A02 = codes "A02"
code_text code.A03 = codes "A03"
code_text code.A04 = codes "A04"
code_text code.A05 = codes "A05"
code_text code.A06 = codes "A06"
code_text code.A07 = codes "A07"
code_text code.A08 = codes "A08"

-- the code at a path
abbrev pub flaw_at : AdmitCode → List Step → AdmitFlaw
flaw_at c p = record { code = c; path = p }

-- the code at the place that was found, if one was
abbrev pub told : AdmitCode → Option (List Step) → Option AdmitFlaw
told c None = None
told c (Some p) = Some (flaw_at c p)

-- the first flaw of several checks
abbrev pub first_of : List (Option AdmitFlaw) → Option AdmitFlaw
first_of [] = None
first_of (o ∷ os) = option_or o (first_of os)

-- of several things in order the first that a check refuses
abbrev pub first_refused : {T : Type 0} → (T → Option AdmitFlaw) → List T → Option AdmitFlaw
first_refused check [] = None
first_refused check (x ∷ xs) = option_or (check x) (first_refused check xs)
