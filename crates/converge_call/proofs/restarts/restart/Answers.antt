-- A restart that was made, and one that was refused.
use Rattle.std.proofs.Common.{◌∙◌, [], ◌∷◌, ap, sym}
use Rattle.book.specs.Restarts.{restart_entry}
use Rattle.converge_call.specs.Halting.{halt_refused}
use Rattle.converge_call.proofs.Carrying.{carries_step}
use Rattle.converge_call.proofs.Noting.{append-none}
use Rattle.converge_call.proofs.Restarting.{refused_halts, restart_broke, restart_done}
use Rattle.converge_call.proofs.restarts.restart.Goals as goal

pub returns-in-Ok-clause-done : goal.returns-in-Ok-clause-done
returns-in-Ok-clause-done g c = restart_done g.K.Keeper.shown g.P.Provider.cloud c.args.book.now c.restart.new.self
    c.promises.ensures.run _ c.first_workers-workers.ensures.count (c.in-Ok.ensures.restarted c.requires.unhalted)

pub returns-in-Ok-clause-carries : goal.returns-in-Ok-clause-carries
returns-in-Ok-clause-carries g c = carries_step g.K.Keeper.shown g.P.Provider.cloud c.args.book.now c.restart.new.self
    (restart_entry c.args.book.now.state _ ∷ []) _ _ c.promises.ensures.run c.promises.ensures.held.goes_on
    c.restart.ensures.same (c.in-Ok.ensures.restarted c.requires.unhalted).entries c.restart.ensures.records

pub returns-in-Ok-clause-halt : goal.returns-in-Ok-clause-halt
returns-in-Ok-clause-halt g c = λ goes. c.in-Ok.ensures.goes_on goes

pub returns-in-Err-clause-done : goal.returns-in-Err-clause-done
returns-in-Err-clause-done g c = restart_broke g.K.Keeper.shown g.P.Provider.cloud c.args.book.now c.restart.new.self
    c.promises.ensures.run _ c.first_workers-workers.ensures.count g.K.Keeper.faults _ _
    c.promises.ensures.held.goes_on c.in-Err.why _ c.exit_for.ensures (c.in-Err.ensures.refused c.requires.unhalted)

pub returns-in-Err-clause-carries : goal.returns-in-Err-clause-carries
returns-in-Err-clause-carries g c = carries_step g.K.Keeper.shown g.P.Provider.cloud c.args.book.now
    c.restart.new.self [] _ _ c.promises.ensures.run c.promises.ensures.held.goes_on c.restart.ensures.same
    ((c.in-Err.ensures.refused c.requires.unhalted).entries ∙ sym (append-none _)) c.restart.ensures.records

pub returns-in-Err-clause-halt : goal.returns-in-Err-clause-halt
returns-in-Err-clause-halt g c = λ goes. (c.in-Err.ensures.refused goes).halted
    ∙ sym (ap halt_refused c.exit_for.ensures ∙ refused_halts c.in-Err.why)
