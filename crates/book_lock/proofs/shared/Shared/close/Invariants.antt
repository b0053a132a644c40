use Rattle.std.proofs.Common.{◌<◌, All, vec_len}
use Rattle.book_lock.specs.Closing.{AreAll, IsFree, Settled}
use Rattle.book_lock.proofs.shared.Shared.close.Given as goal

abbrev pub invariant-loop-self : goal.invariant-loop-self
invariant-loop-self g l = record {
  some : 0 < vec_len l.passes;
  free : All (IsFree l.self) l.passes.items;
  all : AreAll l.passes.items;
  settled : (value : g.row.T.Denot) → Settled g.T.Chronicle.list g.T.Chronicle.origin l.self.opening l.passes.items value → Settled g.T.Chronicle.list g.T.Chronicle.origin l.self.opening l.fn.passes.items value;
}

abbrev pub decreases-loop-self : goal.decreases-loop-self
decreases-loop-self g l = vec_len l.passes
