use Rattle.type_catalog.specs.Registries.{kind_name}
use Rattle.type_catalog.proofs.Listed.{read_off}
use Rattle.type_catalog.proofs.registry.Registry.judge.Goals as goal

pub returns : goal.returns
returns g c =
    read_off (λ x. x.kind) kind_name c.args.name.now c.args.self.now.judges c.named.result
    (rw c.as_slice.ensures at c.named.ensures)
