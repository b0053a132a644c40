use Rattle.type_catalog.proofs.ChangeLemmas.{all_soft}
use Rattle.type_catalog.proofs.changing.first_hard.Goals as goal

pub returns-clause-none : goal.returns-clause-none
returns-clause-none c none key some differs =
    all_soft _ _ c.args.other.now _ _ c.as_slice-member-items.ensures.members c.loop-member.invariant c.loop-member-test.false key some differs
