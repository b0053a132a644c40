-- The cases of `specs/marks/Cases.antt`, each by the law of moves through its constructor.
use Rattle.std.proofs.Common.{None, refl}
use Rattle.step_relation.specs.Given.{Answer, Faulted, Nothing}
use Rattle.step_relation.specs.Moves.{ask_failed, begin_faulted, finish, finish_last}
use Rattle.step_relation.specs.Runs.{answer, nothing}
use Rattle.step_relation.specs.Unjudged.{unjudged}
use Rattle.graph_laws.specs.marks.Cases.{FailureIsMarked, FaultIsMarked, LastIsMarked, OtherIsUnmarked}
use Rattle.graph_laws.proofs.marks.Kept.{marks_by_moves}

pub last_is_marked : LastIsMarked
last_is_marked s e k h all unmarked =
    marks_by_moves unjudged s e Nothing None _ _ h
    (finish_last k _ _ (record { all = all; unmarked = unmarked }) refl refl) nothing

pub other_is_unmarked : OtherIsUnmarked
other_is_unmarked s e k h unsettled = marks_by_moves unjudged s e Nothing None _ _ h
    (finish k _ _ unsettled refl refl) nothing

pub failure_is_marked : FailureIsMarked
failure_is_marked s e k asked given reason letters failed h asks refuses falls =
    marks_by_moves unjudged s e (Answer given) failed _ _ h
    (ask_failed k asked given reason letters failed _ _ asks refuses falls refl refl)
    (answer given)

pub fault_is_marked : FaultIsMarked
fault_is_marked judges s e k code path failed h falls tied =
    marks_by_moves judges s e (Faulted code path) failed _ _ h
    (begin_faulted k code path failed _ _ falls refl refl) tied
