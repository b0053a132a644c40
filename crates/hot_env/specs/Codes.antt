-- The codes of what is wrong with an environment, and where it is.
use Rattle.std.specs.Prelude.{ℕ, List, [], ◌∷◌, Bool, Option, Some, None, codes, if◌then◌else◌}
use Rattle.std.specs.Option.{option_or}
use Rattle.heat_value.specs.Data.{Data, Members, no_members, member}
use Rattle.heat_value.specs.declared.path.Step.{Step}
use Rattle.heat_value.specs.declared.path.Step.TheVariants.{Key}
use Rattle.hot_env.specs.declared.code.EnvCode.{EnvCode}
use Rattle.hot_env.specs.declared.code.EnvCode.TheVariants.{V01, V02}
use Rattle.hot_env.specs.declared.flaw.EnvFlaw.{EnvFlaw}
use Rattle.hot_env.specs.declared.fault.EnvFault.{EnvFault}
use Rattle.hot_env.specs.declared.fault.EnvFault.TheVariants.{Wrong, Memory}

-- a code as it is printed
abbrev pub code_text : EnvCode → List ℕ
code_text V01 = codes "V01"
code_text V02 = codes "V02"

-- the code, at the value that was looked at
abbrev pub wrong : EnvCode → EnvFlaw
wrong c = record { code = c; path = [] }

-- the same flaw, seen from one step above
abbrev pub deeper : Step → EnvFlaw → EnvFlaw
deeper s f = record { code = f.code; path = s ∷ f.path }

-- what is wrong behind a step
abbrev pub under : Step → Option EnvFlaw → Option EnvFlaw
under s None = None
under s (Some f) = Some (deeper s f)

-- the code, unless this holds
abbrev pub unless : Bool → EnvCode → Option EnvFlaw
unless holds c = if holds then None else Some (wrong c)

-- of entries in byte order of their keys, the first that a check refuses
abbrev pub first_entry : (List ℕ → Data → Option EnvFlaw) → Members → Option EnvFlaw
first_entry check no_members = None
first_entry check (member k d ms) = option_or (under (Key k) (check k d)) (first_entry check ms)

-- the code that a fault is noted with; want of memory has none
abbrev pub fault_code : EnvFault → Option (List ℕ)
fault_code (Wrong f) = Some (code_text f.code)
fault_code Memory = None

-- the path that is noted with it
abbrev pub fault_path : EnvFault → Option (List Step)
fault_path (Wrong f) = Some f.path
fault_path Memory = None
