use Rattle.std.proofs.Common.{◌<◌, ◌≤◌, ◌-◌, All, vec_len, vec_capacity}
use Rattle.book_lock.specs.Closing.{AreAll, IsFree}
use Rattle.bench_core.proofs.lock.passes.split_to.Given as goal

abbrev pub invariant-loop-passes : goal.invariant-loop-passes
invariant-loop-passes l = record {
  some : 0 < vec_len l.passes;
  room : l.threads ≤ vec_capacity l.passes;
  free : All (IsFree l.shared) l.passes.items;
  all : AreAll l.passes.items;
}

abbrev pub decreases-loop-passes : goal.decreases-loop-passes
decreases-loop-passes l = l.threads - vec_len l.passes
