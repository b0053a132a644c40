-- References to resources, where none may stand.
use Rattle.std.specs.Prelude.{ℕ, ◌+◌, List, Bool, true, false, ◌||◌, Option, Some, None, bytes_eq, codes}
use Rattle.std.specs.Prelude.{if◌then◌else◌}
use Rattle.std.specs.Option.{option_or}
use Rattle.heat_value.specs.Data.{Data, null, flag, whole, words, items, fields, Nodes, no_nodes, node, Members}
use Rattle.heat_value.specs.Data.{no_members, member}
use Rattle.heat_value.specs.declared.path.Step.TheVariants.{Key, Index}
use Rattle.hot_forms.specs.Checks.{wrong, under}
use Rattle.hot_forms.specs.declared.code.HotCode.TheVariants.{H23}
use Rattle.hot_forms.specs.declared.flaw.Flaw.{Flaw}
use Rattle.hot_functions.specs.Forms.{lone}

-- the name of a function that refers to a resource
abbrev pub refers : List ℕ → Bool
refers k = bytes_eq k (codes "get_resource") || bytes_eq k (codes "get_attr")

abbrev pub refers_alone : Option (List ℕ × Data) → Bool
refers_alone None = false
refers_alone (Some p) = refers p.0

-- an object that is a get_resource or a get_attr
abbrev pub is_reference : Members → Bool
is_reference ms = refers_alone (lone ms)

-- H23: the first place, in reading order, of a get_resource or get_attr anywhere in a value
abbrev mutual
  pub reference_in : Data → Option Flaw
  reference_in null = None
  reference_in (flag b) = None
  reference_in (whole z) = None
  reference_in (words s) = None
  reference_in (items ns) = reference_among 0 ns
  reference_in (fields ms) = if is_reference ms then Some (wrong H23) else reference_under ms

  -- of a list's values from the place i on
  pub reference_among : ℕ → Nodes → Option Flaw
  reference_among i no_nodes = None
  reference_among i (node d ns) = option_or (under (Index i) (reference_in d)) (reference_among (i + 1) ns)

  pub reference_under : Members → Option Flaw
  reference_under no_members = None
  reference_under (member k d ms) = option_or (under (Key k) (reference_in d)) (reference_under ms)
