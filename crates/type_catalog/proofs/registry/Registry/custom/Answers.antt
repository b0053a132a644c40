use Rattle.type_catalog.specs.Registries.{test_name}
use Rattle.type_catalog.proofs.Listed.{read_off}
use Rattle.type_catalog.proofs.registry.Registry.custom.Goals as goal

pub returns : goal.returns
returns g c =
    read_off (λ x. x.test) test_name c.args.name.now c.args.self.now.customs c.named.result
    (rw c.as_slice.ensures at c.named.ensures)
