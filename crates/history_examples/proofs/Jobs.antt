-- The cases of `specs/Jobs.antt`, each by the law of moves through its constructor.
use Rattle.std.proofs.Common.{None, refl}
use Rattle.step_relation.specs.Given.{Nothing, Prepared}
use Rattle.step_relation.specs.Moves.{begin_resumed, clean_deleted}
use Rattle.step_relation.specs.Runs.{nothing}
use Rattle.step_relation.specs.Unjudged.{unjudged}
use Rattle.history_examples.specs.Jobs.{DeletedFits, ResumedFits}
use Rattle.graph_laws.proofs.covers.Below.{jobs_moved}

pub resumed_fits : ResumedFits
resumed_fits judges s e k props effect h tied act status newest =
    jobs_moved judges s e (Prepared props effect) None _ _ h
    (begin_resumed k props effect _ _ act status newest refl refl) tied

pub deleted_fits : DeletedFits
deleted_fits s e k r h at loose act unstuck policy =
    jobs_moved unjudged s e Nothing None _ _ h (clean_deleted k r _ _ at loose act unstuck policy refl refl) nothing
