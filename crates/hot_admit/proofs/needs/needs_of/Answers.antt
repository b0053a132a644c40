use Rattle.std.specs.Cmp.Lexicographic.{slice_cmp}
use Rattle.std.specs.Ordering.{nat_cmp}
use Rattle.std.proofs.lemmas.List.Kept.{IsStrictlySortedBy-filter}
use Rattle.hot_admit.proofs.needs.needs_of.Goals as goal

pub from_rising-requires : goal.from_rising-requires
from_rising-requires c =
    rw c.in_ok-those_among.ensures (IsStrictlySortedBy-filter (slice_cmp nat_cmp) _ c.args.names.now c.requires)
