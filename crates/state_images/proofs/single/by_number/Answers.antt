use Rattle.std.proofs.Common.{rules}
use Rattle.std.proofs.lemmas.List.Sorted.{IsNonDecreasingBy-from_sort_by_key}
use Rattle.state_images.specs.Claims.{claimed}
use Rattle.state_images.proofs.single.by_number.Goals as goal

pub returns-clause-sorted : goal.returns-clause-sorted
returns-clause-sorted c =
    IsNonDecreasingBy-from_sort_by_key claimed _ c.in_ok-sort_by_key.ensures.sorted (λ a r f' called. search rules)
