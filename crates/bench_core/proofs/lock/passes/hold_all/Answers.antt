use Rattle.std.proofs.Common.{◌≡◌, List, length, subst, ap, arith}
use Rattle.bench_core.specs.declared.lock.tally.Tally.{Tally}
use Rattle.book_lock.specs.Standing.{Standing}
use Rattle.book_lock.specs.Closing.{KeepNames}
use Rattle.book_lock.proofs.Callers.{all_lent}
use Rattle.bench_core.proofs.lock.passes.hold_all.Goals as goal

pub returns-clause-all : goal.returns-clause-all
returns-clause-all g c =
    all_lent c.args.passes.now.len c.args.passes.now.items c.hold_each.new.passes
    (omega (arith, c.args.passes.now.ok))
    (omega (arith, ap length c.as_mut_slice.ensures.value, c.hold_each.auto.passes))
    (subst (λ (l : List (Standing Tally)). KeepNames l c.hold_each.new.passes) c.as_mut_slice.ensures.value c.hold_each.ensures.names)
    c.requires.all
