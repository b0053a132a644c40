-- What is wrong and where: a check gives its flaw, or nothing; of a list of checks the first that gives one counts.
use Rattle.std.specs.Prelude.{ℕ, List, [], ◌∷◌, Bool, Option, Some, None, bytes_eq, if◌then◌else◌}
use Rattle.std.specs.Option.{option_or}
use Rattle.std.specs.List.{list_any}
use Rattle.heat_value.specs.Data.{Data, Members, no_members, member}
use Rattle.heat_value.specs.declared.path.Step.{Step}
use Rattle.heat_value.specs.declared.path.Step.TheVariants.{Key}
use Rattle.hot_forms.specs.declared.code.HotCode.{HotCode}
use Rattle.hot_forms.specs.declared.flaw.Flaw.{Flaw}

-- the code, at the root of what was looked at
abbrev pub wrong : HotCode → Flaw
wrong c = record { code = c; path = [] }

-- the same flaw, seen from one step above
abbrev pub deeper : Step → Flaw → Flaw
deeper s f = record { code = f.code; path = s ∷ f.path }

-- what is wrong behind a step
abbrev pub under : Step → Option Flaw → Option Flaw
under s None = None
under s (Some f) = Some (deeper s f)

-- the first flaw of several checks
abbrev pub first_of : List (Option Flaw) → Option Flaw
first_of [] = None
first_of (o ∷ os) = option_or o (first_of os)

-- the code, unless this holds
abbrev pub unless : Bool → HotCode → Option Flaw
unless holds c = if holds then None else Some (wrong c)

-- the text is one of these
abbrev pub is_among : List (List ℕ) → List ℕ → Bool
is_among known s = list_any (bytes_eq s) known

-- the first key in byte order that isn't one of these
abbrev pub unknown_key : HotCode → List (List ℕ) → Members → Option Flaw
unknown_key c known no_members = None
unknown_key c known (member k d ms) =
    if is_among known k then unknown_key c known ms else Some (deeper (Key k) (wrong c))

-- of entries in byte order of their names, the first that a check refuses
abbrev pub first_entry : (List ℕ → Data → Option Flaw) → Members → Option Flaw
first_entry check no_members = None
first_entry check (member k d ms) = option_or (under (Key k) (check k d)) (first_entry check ms)
