use Rattle.hot_admit.proofs.Each.{name_at}
use Rattle.hot_admit.proofs.items.names_where.Goals as goal

pub name_of-requires : goal.name_of-requires
name_of-requires c =
    name_at c.args.resources.now c.loop-place.place c.index-resources-place.result c.requires.names
    c.loop-place-test.true c.index-resources-place.is
