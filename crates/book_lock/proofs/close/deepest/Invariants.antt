use Rattle.std.proofs.Common.{◌<◌, ◌≤◌, length, HoldsAt}
use Rattle.std.specs.List.{AllWithin}
use Rattle.book_lock.proofs.close.deepest.Given as goal

abbrev pub invariant-loop-i : goal.invariant-loop-i
invariant-loop-i g l = record {
  within : l.deep < length l.passes;
  deepest : HoldsAt (λ deep. AllWithin (λ pass. length pass.name ≤ length deep.name) l.passes 0 l.i) l.passes l.deep;
}
