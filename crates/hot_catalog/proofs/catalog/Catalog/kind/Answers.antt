use Rattle.hot_catalog.proofs.Placed.{first_found, then_found}
use Rattle.hot_catalog.proofs.catalog.Catalog.kind.Goals as goal

pub returns-in-Some : goal.returns-in-Some
returns-in-Some c =
    first_found c.args.name.now c.args.self.now.registered c.args.self.now.given c.in-Some.kind.now
    (rw c.as_slice.ensures at c.in-Some.ensures)

pub returns-in-None : goal.returns-in-None
returns-in-None c =
    then_found c.args.name.now c.args.self.now.registered c.args.self.now.given _
    (rw c.as_slice.ensures at c.in-None.ensures) (rw c.as_slice-in-None.ensures.kinds at c.named-in-None.ensures)
