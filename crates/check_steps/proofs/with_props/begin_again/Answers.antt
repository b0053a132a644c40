use Rattle.std.proofs.Common.{◌∙◌, sym}
use Rattle.std.proofs.lemmas.Bool.{eqb-false, eqb-true}
use Rattle.step_relation.specs.Begins.{given_up, overtaken}
use Rattle.check_steps.proofs.Moves.{leaves, replaces, resumes}
use Rattle.check_steps.proofs.Turned.{made_turn, prepared_quiet, refused_turn}
use Rattle.check_steps.proofs.with_props.begin_again.Goals as goal

pub returns-in-InProgress-clause-made : goal.returns-in-InProgress-clause-made
returns-in-InProgress-clause-made c = made_turn _ _ _ _ _ _ (prepared_quiet _ _)
    (resumes c.args.s.now.state c.args.e c.args.found.now c.args.props.now c.args.effect c.requires.found
    c.requires.begun c.in-InProgress.is
    (eqb-true _ _ (sym c.eq-is_ours.ensures ∙ c.if-is_ours.true))) c.go_on.ensures.made

pub returns-in-InProgress-clause-cause : goal.returns-in-InProgress-clause-cause
returns-in-InProgress-clause-cause c = refused_turn _ _ _ _ _ _
    (resumes c.args.s.now.state c.args.e c.args.found.now c.args.props.now c.args.effect c.requires.found
    c.requires.begun c.in-InProgress.is
    (eqb-true _ _ (sym c.eq-is_ours.ensures ∙ c.if-is_ours.true))) c.go_on.ensures.cause

pub returns-in-InProgress-2-clause-made : goal.returns-in-InProgress-2-clause-made
returns-in-InProgress-2-clause-made c = made_turn _ _ _ _ _ _ (prepared_quiet _ _)
    (replaces c.args.s.now.state c.args.e c.args.found.now c.args.props.now c.args.effect c.requires.found
    c.requires.begun
    (overtaken c.in-InProgress-2.is (eqb-false _ _ (sym c.eq-is_ours.ensures ∙ c.if-is_ours.false))))
    c.replace.ensures.made

pub returns-in-InProgress-2-clause-cause : goal.returns-in-InProgress-2-clause-cause
returns-in-InProgress-2-clause-cause c = refused_turn _ _ _ _ _ _
    (replaces c.args.s.now.state c.args.e c.args.found.now c.args.props.now c.args.effect c.requires.found
    c.requires.begun
    (overtaken c.in-InProgress-2.is (eqb-false _ _ (sym c.eq-is_ours.ensures ∙ c.if-is_ours.false))))
    c.replace.ensures.cause

pub returns-in-Failed-clause-made : goal.returns-in-Failed-clause-made
returns-in-Failed-clause-made c = made_turn _ _ _ _ _ _ (prepared_quiet _ _)
    (leaves c.args.s.now.state c.args.e c.args.found.now c.args.props.now c.args.effect c.requires.found
    c.requires.begun c.in-Failed.is
    (eqb-true _ _ (sym c.eq-is_ours.ensures ∙ c.if-is_ours-2.true))) c.leave.ensures.made

pub returns-in-Failed-clause-cause : goal.returns-in-Failed-clause-cause
returns-in-Failed-clause-cause c = refused_turn _ _ _ _ _ _
    (leaves c.args.s.now.state c.args.e c.args.found.now c.args.props.now c.args.effect c.requires.found
    c.requires.begun c.in-Failed.is
    (eqb-true _ _ (sym c.eq-is_ours.ensures ∙ c.if-is_ours-2.true))) c.leave.ensures.cause

pub returns-in-Failed-2-clause-made : goal.returns-in-Failed-2-clause-made
returns-in-Failed-2-clause-made c = made_turn _ _ _ _ _ _ (prepared_quiet _ _)
    (replaces c.args.s.now.state c.args.e c.args.found.now c.args.props.now c.args.effect c.requires.found
    c.requires.begun
    (given_up c.in-Failed-2.is (eqb-false _ _ (sym c.eq-is_ours.ensures ∙ c.if-is_ours-2.false))))
    c.replace-in-Failed-2.ensures.made

pub returns-in-Failed-2-clause-cause : goal.returns-in-Failed-2-clause-cause
returns-in-Failed-2-clause-cause c = refused_turn _ _ _ _ _ _
    (replaces c.args.s.now.state c.args.e c.args.found.now c.args.props.now c.args.effect c.requires.found
    c.requires.begun
    (given_up c.in-Failed-2.is (eqb-false _ _ (sym c.eq-is_ours.ensures ∙ c.if-is_ours-2.false))))
    c.replace-in-Failed-2.ensures.cause
