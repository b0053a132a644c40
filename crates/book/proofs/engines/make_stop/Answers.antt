use Rattle.book.proofs.Doing.{does_of, made_honest, made_storable, stop_honest, stop_step}
use Rattle.book.proofs.engines.make_stop.Goals as goal

pub make_step-requires-clause-storable : goal.make_step-requires-clause-storable
make_step-requires-clause-storable g c = made_storable _ c.requires.workable _ c.stop-made.result
    (λ cs es k. stop_step _ c.args.e cs es k) c.stop-made.ensures.made

pub make_step-requires-clause-honest : goal.make_step-requires-clause-honest
make_step-requires-clause-honest g c = made_honest _ c.stop-made.result c.stop-made.ensures.cause
    (stop_honest _ c.args.e)

pub returns : goal.returns
returns g c = does_of _ _ tt c.stop-made.result _ _ _ _ _ _ _ _ c.make_step.result c.make_step.result
    c.stop-made.ensures.made c.stop-made.ensures.cause c.make_step.ensures
    (made_honest _ c.stop-made.result c.stop-made.ensures.cause (stop_honest _ c.args.e)) (λ is. is) (λ r is. is)
