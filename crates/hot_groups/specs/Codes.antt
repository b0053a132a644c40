-- The codes of what is wrong with a template's groups, and where it is.
use Rattle.std.specs.Prelude.{ℕ, List, [], ◌∷◌, Bool, Option, Some, None, codes, if◌then◌else◌}
use Rattle.std.specs.Option.{option_or}
use Rattle.heat_value.specs.Data.{Data, Members, no_members, member}
use Rattle.heat_value.specs.declared.path.Step.{Step}
use Rattle.heat_value.specs.declared.path.Step.TheVariants.{Key}
use Rattle.hot_groups.specs.declared.code.GroupCode.{GroupCode}
use Rattle.hot_groups.specs.declared.code.GroupCode.TheVariants.{G01, G02, G03}
use Rattle.hot_groups.specs.declared.flaw.GroupFlaw.{GroupFlaw}
use Rattle.hot_groups.specs.declared.fault.GroupFault.{GroupFault}
use Rattle.hot_groups.specs.declared.fault.GroupFault.TheVariants.{Wrong, Memory}

-- a code as it is printed
abbrev pub code_text : GroupCode → List ℕ
code_text G01 = codes "G01"
code_text G02 = codes "G02"
code_text G03 = codes "G03"

-- the code, at the value that was looked at
abbrev pub wrong : GroupCode → GroupFlaw
wrong c = record { code = c; path = [] }

-- the same flaw, seen from one step above
abbrev pub deeper : Step → GroupFlaw → GroupFlaw
deeper s f = record { code = f.code; path = s ∷ f.path }

-- what is wrong behind a step
abbrev pub under : Step → Option GroupFlaw → Option GroupFlaw
under s None = None
under s (Some f) = Some (deeper s f)

-- the code, unless this holds
abbrev pub unless : Bool → GroupCode → Option GroupFlaw
unless holds c = if holds then None else Some (wrong c)

-- of entries in byte order of their keys, the first that a check refuses
abbrev pub first_entry : (List ℕ → Data → Option GroupFlaw) → Members → Option GroupFlaw
first_entry check no_members = None
first_entry check (member k d ms) = option_or (under (Key k) (check k d)) (first_entry check ms)

-- the code that a fault is noted with; want of memory has none
abbrev pub fault_code : GroupFault → Option (List ℕ)
fault_code (Wrong f) = Some (code_text f.code)
fault_code Memory = None

-- the path that is noted with it
abbrev pub fault_path : GroupFault → Option (List Step)
fault_path (Wrong f) = Some f.path
fault_path Memory = None
