-- No node before the first has its mark.
use Rattle.std.proofs.Common.{inl, inr}
use Rattle.std.proofs.lemmas.Bool.{cases_lt}
use Rattle.dep_graph.proofs.marks.least_marked.Goals as goal

pub returns-then-mark : goal.returns-then-mark
returns-then-mark c = (
  c.loop-node-test.true,
  record {
    is = c.if-mark.true;
    least = λ other m. elim (cases_lt other c.loop-node.node) [
      | inl below ↦ absurd (c.loop-node.invariant other below m)
      | inr above ↦ above
    ];
  },
)
