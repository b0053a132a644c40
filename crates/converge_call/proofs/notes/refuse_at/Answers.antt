-- A note with the line's number, the code and the place, or nothing.
use Rattle.std.proofs.Common.{refl}
use Rattle.step_relation.specs.Steps.{notes}
use Rattle.converge_call.proofs.Carrying.{carries_none}
use Rattle.converge_call.proofs.Noting.{nothing_done, noted_as}
use Rattle.converge_call.proofs.notes.refuse_at.Goals as goal

pub note-requires : goal.note-requires
note-requires g c = notes _ _ _

pub returns-in_default-clause-done : goal.returns-in_default-clause-done
returns-in_default-clause-done g c = nothing_done _ _ _ _ refl refl

pub returns-clause-done : goal.returns-clause-done
returns-clause-done g c = noted_as _ _ _ _ _ _ _ _ c.in-Ok-from_str.ensures c.in-Ok.ensures c.note.ensures.done

pub returns-in_default-from_str-clause-done : goal.returns-in_default-from_str-clause-done
returns-in_default-from_str-clause-done g c = nothing_done _ _ _ _ refl refl

pub returns-in_default-clause-carries : goal.returns-in_default-clause-carries
returns-in_default-clause-carries g c = carries_none g.K.Keeper.shown g.P.Provider.cloud c.args.book.now

pub returns-in_default-clause-halt : goal.returns-in_default-clause-halt
returns-in_default-clause-halt g c = λ goes. goes

pub returns-in_default-from_str-clause-carries : goal.returns-in_default-from_str-clause-carries
returns-in_default-from_str-clause-carries g c = carries_none g.K.Keeper.shown g.P.Provider.cloud c.args.book.now

pub returns-in_default-from_str-clause-halt : goal.returns-in_default-from_str-clause-halt
returns-in_default-from_str-clause-halt g c = λ goes. goes
