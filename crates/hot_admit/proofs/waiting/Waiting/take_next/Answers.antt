-- The one that is taken out was placed, as all are, and so are those that are left.
use Rattle.std.proofs.Common.{length}
use Rattle.hot_admit.proofs.Waits.{taken_placed, rest_placed}
use Rattle.hot_admit.proofs.waiting.Waiting.take_next.Goals as goal

pub invariant_of-self : goal.invariant_of-self
invariant_of-self c = (
  c.self.invariant.0,
  rest_placed (length c.self.inside.lists.items) c.pop_first.result _ _ c.self.invariant.1
      c.pop_first.ensures.removal c.pop_first.ensures.unchanged,
)

pub returns-clause-placed : goal.returns-clause-placed
returns-clause-placed c =
    rw (← c.self.view_is)
    (taken_placed (length c.self.inside.lists.items) c.pop_first.result _ _ c.self.invariant.1
    c.pop_first.ensures.removal)
