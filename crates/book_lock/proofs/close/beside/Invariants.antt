use Rattle.std.proofs.Common.{ℕ, ◌<◌, HoldsAt}
use Rattle.book_lock.specs.Closing.{AreSiblingNames}
use Rattle.book_lock.proofs.close.beside.Given as goal

abbrev pub invariant-loop-i : goal.invariant-loop-i
invariant-loop-i g l = (k : ℕ) → k < l.i → HoldsAt (λ other. ¬ AreSiblingNames other.name l.pass.name) l.passes k
