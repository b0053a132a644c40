-- The cases of `specs/Covers.antt`, each by the law of moves through its constructor.
use Rattle.std.proofs.Common.{None, [], ◌∷◌, refl}
use Rattle.step_relation.specs.Given.{Nothing}
use Rattle.step_relation.specs.Moves.{finish_overrun, takeover_overrun}
use Rattle.step_relation.specs.Resends.{cleanup, update}
use Rattle.step_relation.specs.Runs.{nothing}
use Rattle.step_relation.specs.Unjudged.{unjudged}
use Rattle.step_relation.specs.Writes.{letter_to}
use Rattle.history_examples.specs.Covers.{StaleEndTells, StaleTakeOverTells}
use Rattle.graph_laws.proofs.covers.Moves.{covers_moved}

pub stale_take_over_tells : StaleTakeOverTells
stale_take_over_tells s e f j row st g i h next found overrun its least =
    covers_moved unjudged s e Nothing None _ _ h (takeover_overrun f j _ _ next (record {
      row = row;
      found = found;
      overrun = overrun;
      letters = letter_to st s.next.letter i ∷ [];
      resends = update st g i its least;
    }) refl refl) nothing

pub stale_end_tells : StaleEndTells
stale_end_tells s e j row st g i h works found overrun its no_update least =
    covers_moved unjudged s e Nothing None _ _ h (finish_overrun j _ _ works (record {
      row = row;
      found = found;
      overrun = overrun;
      letters = letter_to st s.next.letter i ∷ [];
      resends = cleanup st g i its no_update least;
    }) refl refl) nothing
