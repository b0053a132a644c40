use Rattle.std.proofs.Common.{subst}
use Rattle.std.specs.Prelude.{Option}
use Rattle.core_state.specs.declared.made.Made.{Made}
use Rattle.step_ends.specs.Marks.{IsBehind}
use Rattle.check_steps.proofs.Faults.{behind_refused, in_table, rolled, unrolled}
use Rattle.check_steps.proofs.Turned.{faulted_quiet, turn_made, turn_refused}
use Rattle.check_steps.proofs.faulting.fail.Goals as goal

pub rolled_behind-requires-clause-found : goal.rolled_behind-requires-clause-found
rolled_behind-requires-clause-found c = in_table c.args.s.now.state c.args.e c.args.found.now c.args.code.now
    c.args.path.now c.requires.found

pub returns-in-Ok-None-clause-made : goal.returns-in-Ok-None-clause-made
returns-in-Ok-None-clause-made c = turn_made _ _ _ _ _ _ (faulted_quiet _ _)
    (unrolled c.args.s.now.state c.args.e c.args.found.now c.args.code.now c.args.path.now c.requires.found
    c.requires.running
    (subst (λ (o : Option Made). IsBehind c.args.s.now.state c.args.e c.args.found.now.stack.now o)
    c.in-Ok-None.field-0-is c.in-Ok-None.ensures.made))
    c.mark.ensures.made

pub returns-in-Ok-None-clause-cause : goal.returns-in-Ok-None-clause-cause
returns-in-Ok-None-clause-cause c = turn_refused _ _ _ _ _ _
    (unrolled c.args.s.now.state c.args.e c.args.found.now c.args.code.now c.args.path.now c.requires.found
    c.requires.running
    (subst (λ (o : Option Made). IsBehind c.args.s.now.state c.args.e c.args.found.now.stack.now o)
    c.in-Ok-None.field-0-is c.in-Ok-None.ensures.made))
    c.mark.ensures.cause

pub returns-in-Ok-Some-clause-made : goal.returns-in-Ok-Some-clause-made
returns-in-Ok-Some-clause-made c =
    let behind = (subst (λ (o : Option Made). IsBehind c.args.s.now.state c.args.e c.args.found.now.stack.now o)
    c.in-Ok-Some.field-0-is c.in-Ok-Some.ensures.made) in
    turn_made _ _ _ _ _ _ (faulted_quiet _ _) (rolled c.args.s.now.state c.args.e c.args.found.now c.args.code.now
    c.args.path.now c.requires.found c.requires.running
    c.in-Ok-Some.last.changes c.in-Ok-Some.last.entries behind.0) c.mark_first.ensures.made

pub returns-in-Ok-Some-clause-cause : goal.returns-in-Ok-Some-clause-cause
returns-in-Ok-Some-clause-cause c =
    let behind = (subst (λ (o : Option Made). IsBehind c.args.s.now.state c.args.e c.args.found.now.stack.now o)
    c.in-Ok-Some.field-0-is c.in-Ok-Some.ensures.made) in
    turn_refused _ _ _ _ _ _ (rolled c.args.s.now.state c.args.e c.args.found.now c.args.code.now c.args.path.now
    c.requires.found c.requires.running
    c.in-Ok-Some.last.changes c.in-Ok-Some.last.entries behind.0) c.mark_first.ensures.cause

pub returns-in-Err-clause-cause : goal.returns-in-Err-clause-cause
returns-in-Err-clause-cause c = behind_refused c.args.s.now.state c.args.e c.args.found.now c.args.code.now
    c.args.path.now c.requires.found
    c.requires.running c.in-Err.refusal c.in-Err.ensures.cause
