-- The cases of `specs/Graphs.antt`, each by the law of moves through its constructor.
use Rattle.std.proofs.Common.{None, Some, refl}
use Rattle.step_relation.specs.Given.{Nothing, Prepared}
use Rattle.step_relation.specs.Moves.{begin_overrun, begin_replaced, clean_retained, finish}
use Rattle.step_relation.specs.Runs.{nothing}
use Rattle.step_relation.specs.Unjudged.{unjudged}
use Rattle.history_examples.specs.Graphs.{FinishFits, GivenUpFits, OverrunFits, ReplacementFits}
use Rattle.graph_laws.proofs.graphs.Moves.{graphs_moved}

pub replacement_fits : ReplacementFits
replacement_fits judges s e k props effect h act go tied =
    graphs_moved judges s e (Prepared props effect) None _ _ h (begin_replaced k props effect _ _ act go refl refl) tied

pub finish_fits : FinishFits
finish_fits s e k h open_ = graphs_moved unjudged s e Nothing None _ _ h (finish k _ _ open_ refl refl) nothing

pub given_up_fits : GivenUpFits
given_up_fits s e k r h at loose act unstuck policy =
    graphs_moved unjudged s e Nothing None _ _ h (clean_retained k r _ _ at loose act unstuck policy refl refl) nothing

pub overrun_fits : OverrunFits
overrun_fits s e j r letters h works overrun at resends = graphs_moved unjudged s e Nothing None _ _ h
    (begin_overrun j _ _ works (record {
      row = Some r;
      found = at;
      overrun = overrun;
      letters = letters;
      resends = resends;
    }) refl refl)
    nothing
