use Rattle.std.proofs.Common.{◌∙◌, sym, ap, take, arith}
use Rattle.heat_value.specs.Data.{node_last}
use Rattle.heat_value.specs.Meaning.{data_of}
use Rattle.cloud_file.specs.Written.{resource_nodes}
use Rattle.cloud_file.proofs.Places.{nodes_at}
use Rattle.cloud_file.proofs.writing.resources.Goals as goal

pub loop-one-preserved : goal.loop-one-preserved
loop-one-preserved c =
    c.in_ok-push.ensures.ok
    ∙ (ap (λ ns. node_last ns (data_of c.in_ok-resource.field-0)) c.loop-one.invariant
    ∙ (ap (node_last (resource_nodes (take c.loop-one.one-index c.args.held.now))) c.in_ok-resource.ensures
    ∙ sym (nodes_at c.args.held.now c.loop-one.one-index c.one-item.result (omega arith) c.one-item.is)))
