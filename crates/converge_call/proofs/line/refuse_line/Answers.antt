-- A note with the fault's code and place, or nothing.
use Rattle.std.proofs.Common.{refl, sym, List, Option, subst}
use Rattle.heat_value.specs.declared.path.Step.{Step}
use Rattle.converge_call.specs.Notes.{refused_at, Notes}
use Rattle.converge_call.proofs.Carrying.{carries_none}
use Rattle.converge_call.proofs.Noting.{does_as, nothing_done}
use Rattle.converge_call.proofs.line.refuse_line.Goals as goal

pub returns-in-Some-clause-done : goal.returns-in-Some-clause-done
returns-in-Some-clause-done g c =
    does_as _ _ _ _ _ (λ es noted. record {
      code = c.in-Some.code.now;
      its_code = sym c.in-Some.ensures;
      noted = subst (λ (p : Option (List Step)). Notes (refused_at c.args.number c.in-Some.code.now p)
          c.args.book.now.state c.refuse_at.new.book.state es) c.path.ensures noted;
    }) c.refuse_at.ensures.done

pub returns-in-None-clause-done : goal.returns-in-None-clause-done
returns-in-None-clause-done g c = nothing_done _ _ _ _ refl refl

pub returns-in-None-clause-carries : goal.returns-in-None-clause-carries
returns-in-None-clause-carries g c = carries_none g.K.Keeper.shown g.P.Provider.cloud c.args.book.now

pub returns-in-None-clause-halt : goal.returns-in-None-clause-halt
returns-in-None-clause-halt g c = λ goes. goes
