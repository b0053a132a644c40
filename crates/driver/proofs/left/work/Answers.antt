-- The book's state is one that changes made of the empty one, so that its tables have each key once.
use Rattle.std.proofs.Common.{subst, sym}
use Rattle.driver.specs.Keyed.{AreKeyed}
use Rattle.driver.proofs.Keyed.{made_keyed}
use Rattle.driver.proofs.left.work.Goals as goal

pub work_of-requires : goal.work_of-requires
work_of-requires g c = subst AreKeyed (sym c.state.ensures) (made_keyed c.args.book.now.state c.promises.ensures.made)
