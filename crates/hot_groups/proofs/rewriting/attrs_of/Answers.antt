use Rattle.std.proofs.Common.{refl}
use Rattle.heat_value.specs.Data.{node, words}
use Rattle.heat_value.specs.Meaning.{nodes_of}
use Rattle.hot_groups.specs.References.{each_node, attr_of}
use Rattle.hot_groups.proofs.Listed.{one_more}
use Rattle.hot_groups.proofs.rewriting.attrs_of.Goals as goal

pub loop-name-preserved : goal.loop-name-preserved
loop-name-preserved c =
    rw (c.in_ok-push.ensures.ok, c.loop-name.invariant) (one_more
    (each_node (attr_of (node (words c.args.attribute.now) (nodes_of c.args.path.now))))
    (attr_of (node (words c.args.attribute.now) (nodes_of c.args.path.now))) refl (λ d ns. refl)
    c.args.roster.now c.loop-name.name-index c.name-item.result _ c.loop-name-test.true c.name-item.is
    c.in_ok-attr_of.ensures)
