use Rattle.std.proofs.Common.{◌≡◌, ◌+◌, ℕ, Bool, All, sum_by}
use Rattle.book_lock.specs.declared.tests.Ledger.{Ledger}
use Rattle.book_lock.specs.Names.{on}
use Rattle.book_lock.specs.Standing.{Standing}
use Rattle.book_lock.specs.Closing.{IsFree}
use Rattle.book_lock.proofs.tests.doubled.Given as goal

abbrev pub invariant-loop-pass : goal.invariant-loop-pass
invariant-loop-pass g l = record {
  free : All (IsFree l.shared) l.passes.items;
  next : All (IsFree l.shared) l.next.items;
  all : (row : ℕ → Bool) → sum_by (λ (pass : Standing Ledger). on row pass.name) l.next.items + sum_by (λ (pass : Standing Ledger). on row pass.name) l.passes.items ≡ 1;
}

abbrev pub decreases-loop-pass : goal.decreases-loop-pass
decreases-loop-pass g l = goal.left-loop-pass g l
