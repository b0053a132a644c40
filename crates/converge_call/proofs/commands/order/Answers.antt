-- A command that was made, and one that was refused.
use Rattle.std.proofs.Common.{Ok, ap, refl}
use Rattle.driver.specs.Quiet.{page}
use Rattle.converge_call.proofs.Carrying.{carries_grown, carries_step}
use Rattle.converge_call.proofs.Halting.{halts_else, halts_refused}
use Rattle.converge_call.proofs.Ordering.{does_grows, ordered, step_done, step_refused}
use Rattle.converge_call.proofs.commands.order.Goals as goal

pub returns-in-Ok-clause-done : goal.returns-in-Ok-clause-done
returns-in-Ok-clause-done g c =
    let old = page c.args.book.now.state c.args.book.now.entries in
    let new = page c.command.new.self.state c.command.new.self.entries in
    step_done c.args.number _ _ _ old new new _ _ (λ es it. it) c.in-Ok.field-0 (ordered old new c.args.command _ c.in-Ok.ensures.created c.in-Ok.ensures.updated c.in-Ok.ensures.deleted
    c.in-Ok.ensures.cancelled) refl

pub returns-in-Ok-clause-carries : goal.returns-in-Ok-clause-carries
returns-in-Ok-clause-carries g c =
    let old = page c.args.book.now.state c.args.book.now.entries in
    let new = page c.command.new.self.state c.command.new.self.entries in
    let (es, grows) = does_grows _ _ _ old new _ (ordered old new c.args.command _ c.in-Ok.ensures.created c.in-Ok.ensures.updated c.in-Ok.ensures.deleted
    c.in-Ok.ensures.cancelled) in
    carries_step g.K.Keeper.shown g.P.Provider.cloud c.args.book.now c.command.new.self es _ _ c.promises.ensures.run
    c.promises.ensures.held.goes_on c.command.ensures.same grows c.command.ensures.records

pub returns-in-Ok-clause-halt : goal.returns-in-Ok-clause-halt
returns-in-Ok-clause-halt g c = halts_else g.K.Keeper.faults _ _ c.args.book.now c.command.new.self (Ok tt)
    c.in-Ok.ensures.halt (λ e. cc) refl

pub returns-in-Err-clause-done : goal.returns-in-Err-clause-done
returns-in-Err-clause-done g c =
    let old = page c.args.book.now.state c.args.book.now.entries in
    let mid = page c.command.new.self.state c.command.new.self.entries in
    step_refused c.args.number _ _ _ old mid _ _ _ (λ es it. it) c.in-Err.refusal
    (ordered old mid c.args.command _ c.in-Err.ensures.created c.in-Err.ensures.updated c.in-Err.ensures.deleted
    c.in-Err.ensures.cancelled)
    c.refuse_for.ensures.done

pub returns-in-Err-clause-carries : goal.returns-in-Err-clause-carries
returns-in-Err-clause-carries g c =
    let old = page c.args.book.now.state c.args.book.now.entries in
    let mid = page c.command.new.self.state c.command.new.self.entries in
    let (es, grows) = does_grows _ _ _ old mid _
    (ordered old mid c.args.command _ c.in-Err.ensures.created c.in-Err.ensures.updated c.in-Err.ensures.deleted
    c.in-Err.ensures.cancelled) in
    carries_grown g.K.Keeper.shown g.P.Provider.cloud c.args.book.now c.command.new.self c.refuse_for.new.book
    (carries_step g.K.Keeper.shown g.P.Provider.cloud c.args.book.now c.command.new.self es _ _ c.promises.ensures.run
    c.promises.ensures.held.goes_on c.command.ensures.same grows c.command.ensures.records)
    c.refuse_for.ensures.carries c.refuse_for.ensures.only

pub returns-in-Err-clause-halt : goal.returns-in-Err-clause-halt
returns-in-Err-clause-halt g c = halts_refused g.K.Keeper.faults c.args.book.now c.command.new.self c.refuse_for.new.book
    c.in-Err.refusal _ c.in-Err.ensures.halt (ap (λ b. b.halt) c.refuse_for.ensures.only) c.refuse_for.ensures.halts
