-- How the turns ended, and the note of it.
use Rattle.std.proofs.Common.{◌∙◌, Err, refl}
use Rattle.driver.specs.Kept.{opening_of}
use Rattle.converge_call.specs.declared.exit.Exit.TheVariants as exit
use Rattle.converge_call.proofs.Carrying.{carries_then, carries_turns}
use Rattle.converge_call.proofs.Halting.{halts_by_fault, halts_else, halts_then}
use Rattle.converge_call.proofs.Running.{settled_as, idle_noted, tired_noted, run_stopped, is_short}
use Rattle.converge_call.proofs.runs.run_at_most.Goals as goal

pub returns-in-Idle-clause-done : goal.returns-in-Idle-clause-done
returns-in-Idle-clause-done g c =
    idle_noted (opening_of g.P.Provider.cloud c.args.book.now) c.args.most _ _ _ _ c.in-Idle.turns c.in-Idle.ensures.ran
    (λ added more sound. settled_as g.P.Provider.cloud c.args.book.now _ added c.turns.ensures.same more
    (c.in-Idle.ensures.settled sound c.in-Idle.turns refl)) c.ran.ensures.done

pub returns-in-Tired-clause-done : goal.returns-in-Tired-clause-done
returns-in-Tired-clause-done g c =
    tired_noted (opening_of g.P.Provider.cloud c.args.book.now) c.args.most _ _ _ _ c.in-Tired.turns
    c.in-Tired.ensures.ran
    (λ sound w work. is_short c.args.most w
    (λ enough. c.in-Tired.ensures.enough sound w c.in-Tired.turns work enough refl))
    c.ran-in-Tired.ensures.done

pub returns-in-Worn-clause-done : goal.returns-in-Worn-clause-done
returns-in-Worn-clause-done g c =
    run_stopped (opening_of g.P.Provider.cloud c.args.book.now) c.args.most _ _ _ _ c.in-Worn.ensures.ran refl

pub returns-in-Memory-clause-done : goal.returns-in-Memory-clause-done
returns-in-Memory-clause-done g c =
    run_stopped (opening_of g.P.Provider.cloud c.args.book.now) c.args.most _ _ _ _ c.in-Memory.ensures.ran refl

pub returns-in-DiskFault-clause-done : goal.returns-in-DiskFault-clause-done
returns-in-DiskFault-clause-done g c =
    run_stopped (opening_of g.P.Provider.cloud c.args.book.now) c.args.most _ _ _ _ c.in-DiskFault.ensures.ran refl

pub returns-in-Idle-clause-carries : goal.returns-in-Idle-clause-carries
returns-in-Idle-clause-carries g c = carries_then g.K.Keeper.shown g.P.Provider.cloud c.args.book.now c.turns.new.book
    c.ran.new.book (λ goes. c.turns.ensures.halt.same (λ f. let is = c.in-Idle.is in cc) ∙ goes)
    (carries_turns g.K.Keeper.shown g.P.Provider.cloud c.args.book.now c.turns.new.book
    c.turns.ensures.ran.added c.turns.ensures.same c.turns.ensures.ran.entries c.turns.ensures.leaves)
    c.ran.ensures.carries

pub returns-in-Idle-clause-halt : goal.returns-in-Idle-clause-halt
returns-in-Idle-clause-halt g c = halts_then _ _ _ _ (c.turns.ensures.halt.same (λ f. let is = c.in-Idle.is in cc))
    c.ran.ensures.halt

pub returns-in-Tired-clause-carries : goal.returns-in-Tired-clause-carries
returns-in-Tired-clause-carries g c = carries_then g.K.Keeper.shown g.P.Provider.cloud c.args.book.now c.turns.new.book
    c.ran-in-Tired.new.book (λ goes. c.turns.ensures.halt.same (λ f. let is = c.in-Tired.is in cc) ∙ goes)
    (carries_turns g.K.Keeper.shown g.P.Provider.cloud c.args.book.now c.turns.new.book
    c.turns.ensures.ran.added c.turns.ensures.same c.turns.ensures.ran.entries c.turns.ensures.leaves)
    c.ran-in-Tired.ensures.carries

pub returns-in-Tired-clause-halt : goal.returns-in-Tired-clause-halt
returns-in-Tired-clause-halt g c = halts_then _ _ _ _ (c.turns.ensures.halt.same (λ f. let is = c.in-Tired.is in cc))
    c.ran-in-Tired.ensures.halt

pub returns-in-Worn-clause-carries : goal.returns-in-Worn-clause-carries
returns-in-Worn-clause-carries g c = carries_turns g.K.Keeper.shown g.P.Provider.cloud c.args.book.now c.turns.new.book
    c.turns.ensures.ran.added c.turns.ensures.same c.turns.ensures.ran.entries c.turns.ensures.leaves

pub returns-in-Worn-clause-halt : goal.returns-in-Worn-clause-halt
returns-in-Worn-clause-halt g c = halts_else g.K.Keeper.faults _ _ c.args.book.now c.turns.new.book (Err exit.Worn)
    c.turns.ensures.halt (λ f. let is = c.in-Worn.is in cc) refl

pub returns-in-Memory-clause-carries : goal.returns-in-Memory-clause-carries
returns-in-Memory-clause-carries g c = carries_turns g.K.Keeper.shown g.P.Provider.cloud c.args.book.now c.turns.new.book
    c.turns.ensures.ran.added c.turns.ensures.same c.turns.ensures.ran.entries c.turns.ensures.leaves

pub returns-in-Memory-clause-halt : goal.returns-in-Memory-clause-halt
returns-in-Memory-clause-halt g c = halts_else g.K.Keeper.faults _ _ c.args.book.now c.turns.new.book (Err exit.Memory)
    c.turns.ensures.halt (λ f. let is = c.in-Memory.is in cc) refl

pub returns-in-DiskFault-clause-carries : goal.returns-in-DiskFault-clause-carries
returns-in-DiskFault-clause-carries g c = carries_turns g.K.Keeper.shown g.P.Provider.cloud c.args.book.now c.turns.new.book
    c.turns.ensures.ran.added c.turns.ensures.same c.turns.ensures.ran.entries c.turns.ensures.leaves

pub returns-in-DiskFault-clause-halt : goal.returns-in-DiskFault-clause-halt
returns-in-DiskFault-clause-halt g c = halts_by_fault g.K.Keeper.faults _ _ c.args.book.now c.turns.new.book
    c.turns.ensures.halt c.in-DiskFault.is
