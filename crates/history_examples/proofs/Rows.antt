-- The case of `specs/Rows.antt`, by the law of moves through its constructor.
use Rattle.std.proofs.Common.{None, refl}
use Rattle.step_relation.specs.Given.{Prepared}
use Rattle.step_relation.specs.Moves.{begin_init}
use Rattle.history_examples.specs.Rows.{BegunFits}
use Rattle.graph_laws.proofs.fits.Kept.{fit_by_moves}

pub begun_fits : BegunFits
begun_fits judges s e k props effect h tied act =
    fit_by_moves judges s e (Prepared props effect) None _ _ h (begin_init k props effect _ _ act refl refl) tied
