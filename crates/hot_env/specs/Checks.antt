-- V01 and V02 of an environment: its keys in byte order, and under `resource_registry` the entries in byte order.
use Rattle.std.specs.Prelude.{◌≡◌, ℕ, List, [], ◌∷◌, Bool, false, not, ◌||◌, Option, Some, bytes_eq}
use Rattle.std.specs.Prelude.{nat_eq, codes, if◌then◌else◌, ⊤}
use Rattle.std.specs.List.{starts_with, ends_with}
use Rattle.std.specs.Option.{option_or}
use Rattle.heat_value.specs.Data.{Data, null, flag, whole, words, items, fields}
use Rattle.heat_value.specs.declared.path.Step.TheVariants.{Key}
use Rattle.hot_forms.specs.Checks.{is_among}
use Rattle.hot_forms.specs.Shapes.{is_text, is_object, members_in}
use Rattle.hot_tree.specs.Readings.{text_or}
use Rattle.hot_env.specs.Codes.{wrong, under, unless, first_entry}
use Rattle.hot_env.specs.declared.code.EnvCode.TheVariants.{V01, V02}
use Rattle.hot_env.specs.declared.flaw.EnvFlaw.{EnvFlaw}
use Rattle.hot_env.specs.declared.fault.EnvFault.{EnvFault}
use Rattle.hot_env.specs.declared.fault.EnvFault.TheVariants.{Wrong, Memory}

-- the keys of other environments that have no meaning here
abbrev pub left_out : List (List ℕ)
left_out = codes "encrypted_param_names" ∷ codes "event_sinks" ∷ codes "parameter_merge_strategies" ∷ []

abbrev pub is_registry : List ℕ → Bool
is_registry k = bytes_eq k (codes "resource_registry")

-- the entry of a registry for single resources
abbrev pub is_of_resources : List ℕ → Bool
is_of_resources k = bytes_eq k (codes "resources")

-- ---- V01

-- an entry of the registry whose value isn't a text
abbrev pub misshapen_entry : List ℕ → Data → Option EnvFlaw
misshapen_entry k d = unless (is_of_resources k || is_text d) V01

-- a registry that isn't an object, or else its first entry that is misshapen
abbrev pub misshapen_registry : Data → Option EnvFlaw
misshapen_registry null = Some (wrong V01)
misshapen_registry (flag b) = Some (wrong V01)
misshapen_registry (whole z) = Some (wrong V01)
misshapen_registry (words s) = Some (wrong V01)
misshapen_registry (items ns) = Some (wrong V01)
misshapen_registry (fields ms) = first_entry misshapen_entry ms

-- V01 at a key: it is unknown, its value isn't an object, or a value of the registry isn't a text
abbrev pub misshapen : List ℕ → Data → Option EnvFlaw
misshapen k d =
    if is_registry k then misshapen_registry d else (
    if is_among (codes "parameter_defaults" ∷ codes "parameters" ∷ []) k then unless (is_object d) V01
    else unless (is_among left_out k) V01)

-- ---- V02

-- the part stands somewhere in the text
abbrev pub has_part : List ℕ → List ℕ → Bool
has_part d [] = false
has_part d (b ∷ s) = starts_with nat_eq (b ∷ s) d || has_part d s

-- an entry of the registry that stands for more than one type by another
abbrev pub is_unsupported : List ℕ → List ℕ → Bool
is_unsupported k s =
    is_of_resources k || has_part (codes "*") k || has_part (codes "*") s || has_part (codes "://") s
    || ends_with nat_eq s (codes ".yaml") || ends_with nat_eq s (codes ".template")

abbrev pub unsupported_entry : List ℕ → Data → Option EnvFlaw
unsupported_entry k d = unless (not (is_unsupported k (text_or [] (Some d)))) V02

-- V02 at a key that is left out, or at an entry of the registry
abbrev pub unsupported : List ℕ → Data → Option EnvFlaw
unsupported k d =
    if is_registry k then first_entry unsupported_entry (members_in d) else unless (not (is_among left_out k)) V02

-- ---- an environment

-- V01 of all keys, then V02 of all; V01 of what isn't an object
abbrev pub flaw_in : Data → Option EnvFlaw
flaw_in null = Some (wrong V01)
flaw_in (flag b) = Some (wrong V01)
flaw_in (whole z) = Some (wrong V01)
flaw_in (words s) = Some (wrong V01)
flaw_in (items ns) = Some (wrong V01)
flaw_in (fields ms) = option_or (first_entry misshapen ms) (first_entry unsupported ms)

-- the first flaw of an environment, by its path from the body's root
abbrev pub environment_flaw : Data → Option EnvFlaw
environment_flaw d = under (Key (codes "environment")) (flaw_in d)

-- the environment's first flaw, or want of memory
abbrev pub IsFaultOf : Data → EnvFault → Type 0
IsFaultOf d (Wrong f) = environment_flaw d ≡ Some f
IsFaultOf d Memory = ⊤
