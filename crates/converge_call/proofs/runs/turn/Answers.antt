-- A step, the note of a turn without one, and the note that the number was never drawn.
use Rattle.std.proofs.Common.{◌∙◌, Err, Ok, inl, refl}
use Rattle.driver.specs.Scenes.{scene_of}
use Rattle.converge_call.specs.declared.exit.Exit.TheVariants as exit
use Rattle.converge_call.specs.Runs.{never_drawn, lacking}
use Rattle.driver.specs.Turns.{unmade}
use Rattle.driver.proofs.Leavings.{turned_grows}
use Rattle.converge_call.proofs.Carrying.{carries_step, carries_then}
use Rattle.converge_call.proofs.Halting.{halts_by_fault, halts_else, halts_then}
use Rattle.converge_call.proofs.Noting.{done_as}
use Rattle.converge_call.proofs.Running.{not_below}
use Rattle.converge_call.proofs.Turning.{turn_stepped, turn_idle, turn_lost, turn_worn, turn_lacking, turn_unkept}
use Rattle.converge_call.proofs.runs.turn.Goals as goal

pub returns-in-Stepped-clause-done : goal.returns-in-Stepped-clause-done
returns-in-Stepped-clause-done g c = turn_stepped c.args.number c.args.engine (scene_of g.P.Provider.cloud
    c.args.book.now) (scene_of g.P.Provider.cloud c.turn.new.self) _ c.in-Stepped.ensures.turned refl

pub returns-in-Idle-clause-done : goal.returns-in-Idle-clause-done
returns-in-Idle-clause-done g c =
    turn_idle c.args.number c.args.engine (scene_of g.P.Provider.cloud c.args.book.now)
    (scene_of g.P.Provider.cloud c.turned.new.book) _
    (scene_of g.P.Provider.cloud c.turn.new.self) c.in-Idle.ensures.turned c.turned.ensures.done

pub returns-in-Lost-clause-done : goal.returns-in-Lost-clause-done
returns-in-Lost-clause-done g c =
    turn_lost c.args.number c.args.engine (scene_of g.P.Provider.cloud c.args.book.now)
    (scene_of g.P.Provider.cloud c.turned-in-Lost.new.book) _
    (scene_of g.P.Provider.cloud c.turn.new.self) c.in-Lost.ensures.turned c.turned-in-Lost.ensures.done

pub returns-in-Worn-clause-done : goal.returns-in-Worn-clause-done
returns-in-Worn-clause-done g c = turn_worn c.args.number c.args.engine (scene_of g.P.Provider.cloud c.args.book.now)
    (scene_of g.P.Provider.cloud c.turn.new.self) _ c.in-Worn.ensures.turned refl

pub returns-in-Memory-clause-done : goal.returns-in-Memory-clause-done
returns-in-Memory-clause-done g c = turn_lacking c.args.number c.args.engine (scene_of g.P.Provider.cloud
    c.args.book.now) (scene_of g.P.Provider.cloud c.turn.new.self) _ c.in-Memory.ensures.turned refl

pub returns-then-not-was_drawn-clause-done : goal.returns-then-not-was_drawn-clause-done
returns-then-not-was_drawn-clause-done g c =
    let never = not_below c.args.engine c.args.book.now.state.next.engine
    (λ below. let is = c.if-not-was_drawn.ensures.1 below in cc) in
    done_as _ _ _ _ _ _ _ (λ es noted. never_drawn never noted)
    (λ es why un. lacking (unmade (inl refl) un.state un.none) un.memory) c.refuse.ensures.done

pub returns-in-DiskFault-clause-done : goal.returns-in-DiskFault-clause-done
returns-in-DiskFault-clause-done g c = turn_unkept c.args.number c.args.engine (scene_of g.P.Provider.cloud
    c.args.book.now) (scene_of g.P.Provider.cloud c.turn.new.self) _ c.in-DiskFault.ensures.turned refl

pub returns-in-Stepped-clause-carries : goal.returns-in-Stepped-clause-carries
returns-in-Stepped-clause-carries g c =
    let (es, grows) = turned_grows c.args.engine (scene_of g.P.Provider.cloud c.args.book.now)
    (scene_of g.P.Provider.cloud c.turn.new.self) c.turn.result c.turn.ensures.turned in
    carries_step g.K.Keeper.shown g.P.Provider.cloud c.args.book.now c.turn.new.self es _ _ c.promises.ensures.run
    c.promises.ensures.held.goes_on c.turn.ensures.same grows c.turn.ensures.records

pub returns-in-Stepped-clause-halt : goal.returns-in-Stepped-clause-halt
returns-in-Stepped-clause-halt g c = halts_else g.K.Keeper.faults _ _ c.args.book.now c.turn.new.self (Ok tt)
    c.turn.ensures.halt (λ f. let is = c.in-Stepped.is in cc) refl

pub returns-in-Worn-clause-carries : goal.returns-in-Worn-clause-carries
returns-in-Worn-clause-carries g c =
    let (es, grows) = turned_grows c.args.engine (scene_of g.P.Provider.cloud c.args.book.now)
    (scene_of g.P.Provider.cloud c.turn.new.self) c.turn.result c.turn.ensures.turned in
    carries_step g.K.Keeper.shown g.P.Provider.cloud c.args.book.now c.turn.new.self es _ _ c.promises.ensures.run
    c.promises.ensures.held.goes_on c.turn.ensures.same grows c.turn.ensures.records

pub returns-in-Worn-clause-halt : goal.returns-in-Worn-clause-halt
returns-in-Worn-clause-halt g c = halts_else g.K.Keeper.faults _ _ c.args.book.now c.turn.new.self (Err exit.Worn)
    c.turn.ensures.halt (λ f. let is = c.in-Worn.is in cc) refl

pub returns-in-Memory-clause-carries : goal.returns-in-Memory-clause-carries
returns-in-Memory-clause-carries g c =
    let (es, grows) = turned_grows c.args.engine (scene_of g.P.Provider.cloud c.args.book.now)
    (scene_of g.P.Provider.cloud c.turn.new.self) c.turn.result c.turn.ensures.turned in
    carries_step g.K.Keeper.shown g.P.Provider.cloud c.args.book.now c.turn.new.self es _ _ c.promises.ensures.run
    c.promises.ensures.held.goes_on c.turn.ensures.same grows c.turn.ensures.records

pub returns-in-Memory-clause-halt : goal.returns-in-Memory-clause-halt
returns-in-Memory-clause-halt g c = halts_else g.K.Keeper.faults _ _ c.args.book.now c.turn.new.self (Err exit.Memory)
    c.turn.ensures.halt (λ f. let is = c.in-Memory.is in cc) refl

pub returns-in-DiskFault-clause-carries : goal.returns-in-DiskFault-clause-carries
returns-in-DiskFault-clause-carries g c =
    let (es, grows) = turned_grows c.args.engine (scene_of g.P.Provider.cloud c.args.book.now)
    (scene_of g.P.Provider.cloud c.turn.new.self) c.turn.result c.turn.ensures.turned in
    carries_step g.K.Keeper.shown g.P.Provider.cloud c.args.book.now c.turn.new.self es _ _ c.promises.ensures.run
    c.promises.ensures.held.goes_on c.turn.ensures.same grows c.turn.ensures.records

pub returns-in-DiskFault-clause-halt : goal.returns-in-DiskFault-clause-halt
returns-in-DiskFault-clause-halt g c = halts_by_fault g.K.Keeper.faults _ _ c.args.book.now c.turn.new.self
    c.turn.ensures.halt c.in-DiskFault.is

pub returns-in-Idle-clause-carries : goal.returns-in-Idle-clause-carries
returns-in-Idle-clause-carries g c =
    let (es, grows) = turned_grows c.args.engine (scene_of g.P.Provider.cloud c.args.book.now)
    (scene_of g.P.Provider.cloud c.turn.new.self) c.turn.result c.turn.ensures.turned in
    carries_then g.K.Keeper.shown g.P.Provider.cloud c.args.book.now c.turn.new.self c.turned.new.book
    (λ goes. c.turn.ensures.halt.same (λ f. let is = c.in-Idle.is in cc) ∙ goes)
    (carries_step g.K.Keeper.shown g.P.Provider.cloud c.args.book.now c.turn.new.self es _ _ c.promises.ensures.run
    c.promises.ensures.held.goes_on c.turn.ensures.same grows c.turn.ensures.records) c.turned.ensures.carries

pub returns-in-Idle-clause-halt : goal.returns-in-Idle-clause-halt
returns-in-Idle-clause-halt g c = halts_then _ _ _ _ (c.turn.ensures.halt.same (λ f. let is = c.in-Idle.is in cc))
    c.turned.ensures.halt

pub returns-in-Lost-clause-carries : goal.returns-in-Lost-clause-carries
returns-in-Lost-clause-carries g c =
    let (es, grows) = turned_grows c.args.engine (scene_of g.P.Provider.cloud c.args.book.now)
    (scene_of g.P.Provider.cloud c.turn.new.self) c.turn.result c.turn.ensures.turned in
    carries_then g.K.Keeper.shown g.P.Provider.cloud c.args.book.now c.turn.new.self c.turned-in-Lost.new.book
    (λ goes. c.turn.ensures.halt.same (λ f. let is = c.in-Lost.is in cc) ∙ goes)
    (carries_step g.K.Keeper.shown g.P.Provider.cloud c.args.book.now c.turn.new.self es _ _ c.promises.ensures.run
    c.promises.ensures.held.goes_on c.turn.ensures.same grows c.turn.ensures.records) c.turned-in-Lost.ensures.carries

pub returns-in-Lost-clause-halt : goal.returns-in-Lost-clause-halt
returns-in-Lost-clause-halt g c = halts_then _ _ _ _ (c.turn.ensures.halt.same (λ f. let is = c.in-Lost.is in cc))
    c.turned-in-Lost.ensures.halt
