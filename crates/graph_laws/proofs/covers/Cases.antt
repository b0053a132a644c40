-- The cases of `specs/covers/Cases.antt`, each by the law of moves through its constructor.
use Rattle.std.proofs.Common.{None, refl}
use Rattle.step_relation.specs.Given.{Answer, Nothing}
use Rattle.step_relation.specs.Moves.{ask_failed, begin_overrun, finish, take_free, takeover_fresh}
use Rattle.step_relation.specs.Runs.{answer, nothing}
use Rattle.step_relation.specs.Unjudged.{unjudged}
use Rattle.graph_laws.specs.covers.Cases.{FailureTells, FinishTells, ReleaseTells, TakeOverTells, TakenIsCovered}
use Rattle.graph_laws.proofs.covers.Moves.{covers_moved}

pub taken_is_covered : TakenIsCovered
taken_is_covered s e k h free = covers_moved unjudged s e Nothing None _ _ h (take_free k _ _ free refl refl) nothing

pub release_tells : ReleaseTells
release_tells s e j h works k = covers_moved unjudged s e Nothing None _ _ h
    (begin_overrun j _ _ works k refl refl) nothing

pub take_over_tells : TakeOverTells
take_over_tells s e f k h = covers_moved unjudged s e Nothing None _ _ h (takeover_fresh f k _ _ refl refl) nothing

pub failure_tells : FailureTells
failure_tells s e k asked given reason letters failed h asks refuses falls =
    covers_moved unjudged s e (Answer given) failed _ _ h
    (ask_failed k asked given reason letters failed _ _ asks refuses falls refl refl)
    (answer given)

pub finish_tells : FinishTells
finish_tells s e k h open_ = covers_moved unjudged s e Nothing None _ _ h (finish k _ _ open_ refl refl) nothing
