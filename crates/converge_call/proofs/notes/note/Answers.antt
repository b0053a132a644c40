-- One entry more, or nothing.
use Rattle.std.proofs.Common.{Err, Ok, ◌∷◌, [], ap, refl}
use Rattle.converge_call.specs.declared.exit.Exit.TheVariants as exit
use Rattle.converge_call.specs.Notes.{by_main}
use Rattle.converge_call.proofs.Carrying.{carries_noted, carries_still}
use Rattle.converge_call.proofs.Halting.{halts_not}
use Rattle.converge_call.proofs.Noting.{grows_alone, grows_not, note_made, note_not_made}
use Rattle.converge_call.proofs.notes.note.Goals as goal

pub returns-in-Ok-clause-done : goal.returns-in-Ok-clause-done
returns-in-Ok-clause-done g c = note_made c.args.book.now c.note.new.self c.args.what c.in-Ok.ensures.noted

pub returns-in-Ok-clause-only : goal.returns-in-Ok-clause-only
returns-in-Ok-clause-only g c = grows_alone c.args.book.now c.note.new.self _ c.in-Ok.ensures.noted

pub returns-in-Ok-clause-carries : goal.returns-in-Ok-clause-carries
returns-in-Ok-clause-carries g c = carries_noted g.K.Keeper.shown g.P.Provider.cloud c.args.book.now c.note.new.self
    (by_main c.args.what ∷ []) c.in-Ok.ensures.noted

pub returns-in-Ok-clause-halt : goal.returns-in-Ok-clause-halt
returns-in-Ok-clause-halt g c = halts_not _ _ (Ok tt) (ap (λ b. b.halt) c.in-Ok.ensures.noted) refl

pub returns-in-Err-clause-done : goal.returns-in-Err-clause-done
returns-in-Err-clause-done g c = note_not_made c.args.book.now c.note.new.self c.args.what c.in-Err.ensures.err

pub returns-in-Err-clause-only : goal.returns-in-Err-clause-only
returns-in-Err-clause-only g c = grows_not c.args.book.now c.note.new.self c.in-Err.ensures.err

pub returns-in-Err-clause-carries : goal.returns-in-Err-clause-carries
returns-in-Err-clause-carries g c = carries_still g.K.Keeper.shown g.P.Provider.cloud c.args.book.now c.note.new.self
    c.in-Err.ensures.err

pub returns-in-Err-clause-halt : goal.returns-in-Err-clause-halt
returns-in-Err-clause-halt g c = halts_not _ _ (Err exit.Memory)
    (ap (λ b. b.halt) c.in-Err.ensures.err) refl
