use Rattle.std.proofs.Common.{refl}
use Rattle.hot_groups.specs.References.{each_node, id_of}
use Rattle.hot_groups.proofs.Listed.{one_more}
use Rattle.hot_groups.proofs.rewriting.ids_of.Goals as goal

pub loop-name-preserved : goal.loop-name-preserved
loop-name-preserved c =
    rw (c.in_ok-push.ensures.ok, c.loop-name.invariant) (one_more (each_node id_of) id_of refl (λ d ns. refl)
    c.args.roster.now c.loop-name.name-index c.name-item.result _ c.loop-name-test.true c.name-item.is
    c.in_ok-id_of.ensures)
