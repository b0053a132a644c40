use Rattle.std.proofs.Common.{[], arith}
use Rattle.heat_disk.specs.declared.history.Act.TheVariants.{Cut}
use Rattle.heat_disk.specs.declared.history.Event.{Event}
use Rattle.heat_disk.proofs.Logs.{log_of-push, total-push}
use Rattle.heat_disk.proofs.history.History.cut.Goals as goal

pub invariant_of-self : goal.invariant_of-self
invariant_of-self c =
    let event : Event = record { half = c.args.half; act = Cut c.args.len } in
    rw c.push_reserved.ensures.items (omega (arith, total-push c.self.inside.events.items event, c.self.invariant))

pub returns-clause-calls : goal.returns-clause-calls
returns-clause-calls c =
    let event : Event = record { half = c.args.half; act = Cut c.args.len } in
    rw (c.push_reserved.ensures.items, ← c.self.view_is) (log_of-push c.self.inside.events.items event c.self.inside.store.items [])
