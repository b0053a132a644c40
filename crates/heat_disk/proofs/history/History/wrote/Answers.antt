use Rattle.std.proofs.Common.{[], ◌∷◌, length, refl, ◌∙◌, ap, arith, length-append}
use Rattle.std.proofs.lemmas.List.{take_all}
use Rattle.heat_disk.specs.declared.history.Act.TheVariants.{Write}
use Rattle.heat_disk.specs.declared.history.Event.{Event}
use Rattle.heat_disk.specs.History.{wrote}
use Rattle.heat_disk.specs.Events.{log_of}
use Rattle.heat_disk.proofs.Logs.{log_of-written, total-push}
use Rattle.heat_disk.proofs.history.History.wrote.Goals as goal

pub invariant_of-self : goal.invariant_of-self
invariant_of-self c =
    let event : Event = record { half = c.args.half; act = Write c.args.at (length c.args.bytes.now) } in
    rw (c.push_reserved.ensures.items, c.in-Ok.ensures.items)
    (omega (arith, total-push c.self.inside.events.items event, c.self.invariant, length-append c.self.inside.store.items c.args.bytes.now))

pub returns-clause-calls : goal.returns-clause-calls
returns-clause-calls c =
    let event : Event = record { half = c.args.half; act = Write c.args.at (length c.args.bytes.now) } in
    rw (c.push_reserved.ensures.items, c.in-Ok.ensures.items, ← c.self.view_is)
    (log_of-written c.self.inside.events.items event c.self.inside.store.items c.args.bytes.now c.self.invariant refl
    ∙ ap (λ bytes. (c.args.half, wrote c.args.at bytes) ∷ log_of c.self.inside.events.items c.self.inside.store.items []) (take_all (length c.args.bytes.now) c.args.bytes.now (omega arith)))
