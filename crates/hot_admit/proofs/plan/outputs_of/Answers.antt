use Rattle.hot_admit.proofs.Each.{shallow_at}
use Rattle.hot_admit.proofs.plan.outputs_of.Goals as goal

pub value_where-requires : goal.value_where-requires
value_where-requires c =
    shallow_at c.args.outputs.now c.loop-place.place c.index-outputs-place.result c.requires.depth
    c.loop-place-test.true c.index-outputs-place.is
