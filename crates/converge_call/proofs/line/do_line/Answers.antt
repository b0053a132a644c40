-- What the line asks for is done, or its fault noted.
use Rattle.converge_call.specs.Halting.{halt_broken, halt_for}
use Rattle.converge_call.proofs.Lining.{asked_by, misread_by, halts_none, kinds_noted, kinds_read}
use Rattle.converge_call.proofs.Ordering.{misread_told}
use Rattle.converge_call.proofs.line.do_line.Goals as goal

pub returns-in-Ok-clause-done : goal.returns-in-Ok-clause-done
returns-in-Ok-clause-done g c = asked_by _ _ _ _ _ _ _ _ _ _ _ c.in-Ok.asked c.in-Ok.ensures.ok
    (c.do_asked.ensures.halt c.requires.unhalted) c.do_asked.ensures.done

pub returns-in-Err-clause-done : goal.returns-in-Err-clause-done
returns-in-Err-clause-done g c =
    misread_by _ _ _ _ _ _ _ _ _ _ _ c.in-Err.misread (λ code es it. c.in-Err.ensures.fault
    (misread_told c.in-Err.misread it.code it.its_code)) (c.refuse_line.ensures.halt c.requires.unhalted)
    c.refuse_line.ensures.done

pub returns-in-Ok-clause-unhalted : goal.returns-in-Ok-clause-unhalted
returns-in-Ok-clause-unhalted g c = halts_none (halt_for c.in-Ok.asked) _ _
    (c.do_asked.ensures.halt c.requires.unhalted)

pub returns-in-Err-clause-unhalted : goal.returns-in-Err-clause-unhalted
returns-in-Err-clause-unhalted g c = halts_none halt_broken _ _ (c.refuse_line.ensures.halt c.requires.unhalted)

pub returns-in-Ok-clause-kinds : goal.returns-in-Ok-clause-kinds
returns-in-Ok-clause-kinds g c =
    kinds_read _ _ c.in-Ok.asked _ _ c.in-Ok.ensures.ok c.do_asked.ensures.kinds

pub returns-in-Err-clause-kinds : goal.returns-in-Err-clause-kinds
returns-in-Err-clause-kinds g c =
    kinds_noted _ _ _ _ _ _ _ (λ code es it. c.in-Err.ensures.fault
    (misread_told c.in-Err.misread it.code it.its_code)) c.refuse_line.ensures.done
