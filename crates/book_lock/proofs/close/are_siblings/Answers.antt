use Rattle.book_lock.proofs.NamesLemmas.{siblings_by_parts}
use Rattle.book_lock.proofs.close.are_siblings.Goals as goal

pub returns-then-flag-other_flag : goal.returns-then-flag-other_flag
returns-then-flag-other_flag c =
    siblings_by_parts _ _ _ _ _ _ _ c.in-Some.ensures.cases.0 c.in-Some-split_last.ensures.cases.0 c.if-flag-other_flag.true c.eq.ensures
