-- What every book keeps, as it is handed back.
use Rattle.std.specs.Prelude.{ℕ}
use Rattle.provider.specs.Cloud.{Cloud}
use Rattle.record_keeper.specs.Shown.{ShownKeeper}
use Rattle.book.specs.Halts.{MayHalt}
use Rattle.driver.specs.Kept.{HasHeadline, HasRun, IsHeld, IsSoundBook, IsSoundOpening, Shown}

pub record Promises {K P : Type 0} (shown : K → ShownKeeper) (faults_of : K → ℕ) (cloud_of : P → Cloud) (b : Shown K P)
    : Type 0 where
  pub run : HasRun cloud_of b
  pub held : IsHeld (shown b.origin.keeper) (shown b.keeper) (faults_of b.origin.keeper) (faults_of b.keeper) b.state
      b.halt
  pub sound : IsSoundOpening cloud_of b → IsSoundBook cloud_of b
  pub headline : IsSoundOpening cloud_of b → HasHeadline cloud_of b
  pub cause : MayHalt faults_of b b.halt
