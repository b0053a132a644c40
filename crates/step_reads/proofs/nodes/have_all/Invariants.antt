use Rattle.std.proofs.Common.{take}
use Rattle.step_reads.specs.Readiness.{HaveAll}
use Rattle.step_reads.proofs.nodes.have_all.Given as goal

abbrev pub invariant-loop-before : goal.invariant-loop-before
invariant-loop-before l = HaveAll (take l.before-index l.edges) l.node l.sources
