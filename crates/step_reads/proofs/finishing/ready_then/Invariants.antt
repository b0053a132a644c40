use Rattle.std.proofs.Common.{ℕ, take}
use Rattle.std.specs.Prelude.{Contains}
use Rattle.dep_graph.specs.Lists.{ListsAll}
use Rattle.core_state.specs.Reads.{IsReady}
use Rattle.step_relation.specs.Inputs.{passed}
use Rattle.step_reads.proofs.finishing.ready_then.Given as goal

abbrev pub invariant-loop-succ : goal.invariant-loop-succ
invariant-loop-succ l =
    ListsAll (λ (k : ℕ). Contains (take l.succ-index l.succs) k × IsReady (passed l.graph l.node l.input l.fn.succs) k)
    l.ready
