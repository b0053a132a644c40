-- Values that were seen.
use Rattle.std.specs.Prelude.{◌≡◌}
use Rattle.std.specs.BTreeSet.{BTreeSet, contains}
use Rattle.heat_value.specs.Data.{Data, Nodes}
use Rattle.heat_value.specs.Order.{value_cmp}
use Rattle.eval_words.specs.Sameness.{has}

-- the set has just the values of the list
abbrev pub HoldsAll : BTreeSet Data → Nodes → Type 0
HoldsAll seen ns = (d : Data) → contains value_cmp seen d ≡ has d ns
