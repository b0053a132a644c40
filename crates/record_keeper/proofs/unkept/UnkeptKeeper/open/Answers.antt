-- The empty state is what it is opened with.
use Rattle.std.proofs.Common.{refl}
use Rattle.std.specs.Prelude.{IsTrue, false}
use Rattle.core_state.specs.State.{StateData}
use Rattle.record_keeper.proofs.Bare.{bare_opened}
use Rattle.record_keeper.proofs.unkept.UnkeptKeeper.open.Goals as goal
use Rattle.record_keeper.specs.Nothing.{nothing_kept}
use Rattle.record_keeper.specs.Shown.{StandsFor}

untold : ¬ IsTrue false
untold h = cc

goes_on : (s : StateData) → StandsFor nothing_kept s
goes_on s = record { going = refl; told = λ tells. absurd (untold tells); only = λ t stands. absurd stands }

pub returns-clause-opened : goal.returns-clause-opened
returns-clause-opened c = bare_opened _ _ _ c.new.ensures c.new.ensures (goes_on _)
