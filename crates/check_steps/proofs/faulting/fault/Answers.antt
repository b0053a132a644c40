use Rattle.check_steps.proofs.Faults.{leaves_marked, not_complete, not_failed}
use Rattle.check_steps.proofs.Turned.{faulted_quiet, made_turn, refused_turn}
use Rattle.check_steps.proofs.faulting.fault.Goals as goal

pub returns-in-Complete-clause-made : goal.returns-in-Complete-clause-made
returns-in-Complete-clause-made c = made_turn _ _ _ _ _ _ (faulted_quiet _ _)
    (leaves_marked c.args.s.now.state c.args.e c.args.found.now c.args.code.now c.args.path.now c.requires
    (not_complete _ c.in-Complete.is))
    c.leave.ensures.made

pub returns-in-Complete-clause-cause : goal.returns-in-Complete-clause-cause
returns-in-Complete-clause-cause c = refused_turn _ _ _ _ _ _
    (leaves_marked c.args.s.now.state c.args.e c.args.found.now c.args.code.now c.args.path.now c.requires
    (not_complete _ c.in-Complete.is))
    c.leave.ensures.cause

pub returns-in-Failed-clause-made : goal.returns-in-Failed-clause-made
returns-in-Failed-clause-made c = made_turn _ _ _ _ _ _ (faulted_quiet _ _)
    (leaves_marked c.args.s.now.state c.args.e c.args.found.now c.args.code.now c.args.path.now c.requires
    (not_failed _ c.in-Failed.is))
    c.leave-in-Failed.ensures.made

pub returns-in-Failed-clause-cause : goal.returns-in-Failed-clause-cause
returns-in-Failed-clause-cause c = refused_turn _ _ _ _ _ _
    (leaves_marked c.args.s.now.state c.args.e c.args.found.now c.args.code.now c.args.path.now c.requires
    (not_failed _ c.in-Failed.is))
    c.leave-in-Failed.ensures.cause
