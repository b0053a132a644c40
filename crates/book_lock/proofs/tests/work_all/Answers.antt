use Rattle.std.proofs.Common.{List, subst, ap}
use Rattle.book_lock.specs.declared.tests.Ledger.{Ledger}
use Rattle.book_lock.specs.Standing.{Standing}
use Rattle.book_lock.specs.Closing.{KeepNames}
use Rattle.std.proofs.Common.{length, arith}
use Rattle.book_lock.proofs.Callers.{all_lent}
use Rattle.book_lock.proofs.tests.work_all.Goals as goal

pub returns-clause-all : goal.returns-clause-all
returns-clause-all g c =
    all_lent c.args.passes.now.len c.args.passes.now.items c.work_each.new.passes
    (omega (arith, c.args.passes.now.ok))
    (omega (arith, ap length c.as_mut_slice.ensures.value, c.work_each.auto.passes))
    (subst (λ (l : List (Standing Ledger)). KeepNames l c.work_each.new.passes) c.as_mut_slice.ensures.value c.work_each.ensures.names)
    c.requires.all
