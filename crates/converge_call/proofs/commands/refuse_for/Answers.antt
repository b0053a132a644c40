-- A note with the refusal's code, or nothing.
use Rattle.std.proofs.Common.{[], ap, refl, sym, ◌∙◌}
use Rattle.converge_call.specs.Commands.{uncoded, unnoted}
use Rattle.converge_call.specs.Halting.{halt_broken}
use Rattle.converge_call.specs.Notes.{broke}
use Rattle.converge_call.proofs.Carrying.{carries_none}
use Rattle.converge_call.proofs.Halting.{coded_halts, undone_end, unmade_halts}
use Rattle.converge_call.proofs.Noting.{append-none, done_as}
use Rattle.converge_call.proofs.commands.refuse_for.Goals as goal

pub returns-in-Some-clause-done : goal.returns-in-Some-clause-done
returns-in-Some-clause-done g c =
    done_as _ _ _ _ _ _ _ (λ es noted.
    record { code = c.in-Some.code.now; its_code = sym c.in-Some.ensures; noted = noted })
    (λ es why un. unnoted un) c.refuse.ensures.done

pub returns-in-Some-clause-halts : goal.returns-in-Some-clause-halts
returns-in-Some-clause-halts g c =
    undone_end _ _ _ _ c.refuse.ensures.done ∙ sym (coded_halts c.args.refusal c.in-Some.code.now c.in-Some.ensures)

pub returns-in-None-clause-done : goal.returns-in-None-clause-done
returns-in-None-clause-done g c =
    broke [] c.unmade.result (uncoded (sym c.in-None.ensures) refl refl c.unmade.ensures) (sym (append-none _)) refl

pub returns-in-None-clause-carries : goal.returns-in-None-clause-carries
returns-in-None-clause-carries g c = carries_none g.K.Keeper.shown g.P.Provider.cloud c.args.book.now

pub returns-in-None-clause-halts : goal.returns-in-None-clause-halts
returns-in-None-clause-halts g c = ap halt_broken c.unmade.ensures ∙ unmade_halts c.args.refusal
