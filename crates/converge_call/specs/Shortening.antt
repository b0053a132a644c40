-- What a drive makes of a keeper that is long.
use Rattle.std.specs.Prelude.{Ok, Err, Result, Some, false, ◌≡◌}
use Rattle.record_keeper.specs.Shown.{ShownKeeper}
use Rattle.driver.specs.Kept.{Shown}
use Rattle.book.specs.declared.halting.Halt.TheVariants as halt
use Rattle.converge_call.specs.declared.exit.Exit.{Exit}
use Rattle.converge_call.specs.declared.exit.Exit.TheVariants as exit

-- the keeper isn't long, and nothing else has changed; there was no memory; or it failed, which halts the book
pub data Shortens {K P : Type 0} (shown : K → ShownKeeper) (old new : Shown K P) (result : Result (Unit {0}) Exit)
    : Type 0 where
  done : new ≡ record old { keeper = new.keeper } → (shown new.keeper).is_long ≡ false → result ≡ Ok tt
      → Shortens shown old new result
  lacking : new ≡ record old { keeper = new.keeper } → result ≡ Err exit.Memory → Shortens shown old new result
  failed : new ≡ record old { keeper = new.keeper; halt = Some halt.DiskFault } → result ≡ Err exit.DiskFault
      → Shortens shown old new result
