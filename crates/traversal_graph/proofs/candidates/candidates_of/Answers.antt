-- The four sorts one after another.
use Rattle.std.proofs.Common.{arith}
use Rattle.traversal_graph.proofs.candidates.candidates_of.Goals as goal

pub returns-clause-within : goal.returns-clause-within
returns-clause-within c =
    c.in_ok-add_replaces.ensures.within
    (c.in_ok-add_requires.ensures.within (c.in_ok-add_rows.ensures.within
    ((c.in_ok-add_needs.ensures _ (omega arith)).within (rw c.new-fans.ensures (λ k d lt. absurd (omega (arith, lt)))))))
