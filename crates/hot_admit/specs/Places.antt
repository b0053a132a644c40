-- The first place in a value, in reading order, of an object with one key that is of some sort.
use Rattle.std.specs.Prelude.{ℕ, ◌+◌, List, [], Bool, false, Option, Some, None, if◌then◌else◌}
use Rattle.std.specs.Option.{option_or}
use Rattle.heat_value.specs.Data.{Data, null, flag, whole, words, items, fields, Nodes, no_nodes, node}
use Rattle.heat_value.specs.Data.{Members, no_members, member}
use Rattle.heat_value.specs.declared.path.Step.{Step}
use Rattle.heat_value.specs.declared.path.Step.TheVariants.{Key, Index}
use Rattle.hot_catalog.specs.Paths.{behind}
use Rattle.hot_functions.specs.Forms.{lone}

-- a sort of objects with one key: of the key and its value
abbrev pub Sort : Type 0
Sort = List ℕ → Data → Bool

abbrev pub lone_is : Sort → Option (List ℕ × Data) → Bool
lone_is is None = false
lone_is is (Some m) = is m.0 m.1

-- an object comes before what stands in it; a map's keys go in byte order
abbrev mutual
  pub place_in : Sort → Data → Option (List Step)
  place_in is null = None
  place_in is (flag b) = None
  place_in is (whole z) = None
  place_in is (words s) = None
  place_in is (items ns) = place_among is 0 ns
  place_in is (fields ms) = if lone_is is (lone ms) then Some [] else place_under is ms

  -- in a list's values from the place i on
  pub place_among : Sort → ℕ → Nodes → Option (List Step)
  place_among is i no_nodes = None
  place_among is i (node d ns) = option_or (behind (Index i) (place_in is d)) (place_among is (i + 1) ns)

  -- in the values of an object that is no function itself, as a map of properties
  pub place_under : Sort → Members → Option (List Step)
  place_under is no_members = None
  place_under is (member k d ms) = option_or (behind (Key k) (place_in is d)) (place_under is ms)

-- in the value that stands there, if one does
abbrev pub place_there : Sort → Option Data → Option (List Step)
place_there is None = None
place_there is (Some d) = place_in is d
