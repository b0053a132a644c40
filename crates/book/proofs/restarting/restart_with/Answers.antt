-- What is read, what is listed, and the step.
use Rattle.book.proofs.Restarted.{restart_honest, restart_made, restart_unlisted, restart_unread, steps_storable}
use Rattle.book.proofs.restarting.restart_with.Goals as goal

pub returns-in-Err : goal.returns-in-Err
returns-in-Err g c = restart_unread c.args.workers _ _ (g.P.Provider.cloud c.args.cloud.now)
    (g.P.Provider.cloud c.args.cloud.now) _ _ _ _ c.in-Err.why c.in-Err.ensures

pub returns-in-Err-admit : goal.returns-in-Err-admit
returns-in-Err-admit g c = restart_unlisted c.args.workers _ _ _ _ _ _ _ _ c.in-Err-admit.why c.admit.result c.in-Ok.ensures
    c.admit.ensures c.in-Err-admit.is

pub make_step-requires-clause-ready : goal.make_step-requires-clause-ready
make_step-requires-clause-ready g c = c.in-Ok.ensures.ready (λ f. cc)

pub make_step-requires-clause-storable : goal.make_step-requires-clause-storable
make_step-requires-clause-storable g c = steps_storable _ c.requires.workable c.restart-made.result
    c.restart-made.ensures.step

pub make_step-requires-clause-honest : goal.make_step-requires-clause-honest
make_step-requires-clause-honest g c = restart_honest _ c.args.workers c.restart-made.result c.restart-made.ensures.cause

pub returns : goal.returns
returns g c = rw c.restarted.ensures (restart_made c.args.workers _ _ _ _ _ _ _ _ _ _ _ _ c.admit.result
    c.restart-made.result c.make_step.result c.in-Ok.ensures c.admit.ensures c.in-Ok-admit.is c.restart-made.ensures.made
    c.restart-made.ensures.cause c.make_step.ensures
    (restart_honest _ c.args.workers c.restart-made.result c.restart-made.ensures.cause))
