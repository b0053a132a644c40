use Rattle.cleanup_steps.proofs.KeepLemmas.{is_named}
use Rattle.cleanup_steps.proofs.keeping.is_planned.Goals as goal

pub returns-in-Some : goal.returns-in-Some
returns-in-Some c = rw (c.in-Some.is, c.is_some.ensures)
    (is_named (λ i. i.now) c.in-Some.plan.items c.args.name.now c.item_of.result
    (rw c.plan.ensures at c.item_of.ensures))
