use Rattle.std.proofs.lemmas.Bool.{iff_false}
use Rattle.step_relation.specs.Begins.{changed}
use Rattle.check_steps.proofs.Effects.{not_replace, not_same}
use Rattle.check_steps.proofs.Moves.{keeps, replaces, updates}
use Rattle.check_steps.proofs.Turned.{made_turn, prepared_quiet, refused_turn}
use Rattle.check_steps.proofs.with_props.begin_complete.Goals as goal

pub returns-then-not-equals-clause-made : goal.returns-then-not-equals-clause-made
returns-then-not-equals-clause-made c = made_turn _ _ _ _ _ _ (prepared_quiet _ _)
    (replaces c.args.s.now.state c.args.e c.args.found.now c.args.props.now c.args.effect c.requires.found
    c.requires.begun (changed c.requires.complete
    (λ it. iff_false c.equals.ensures c.if-not-equals.true it.kind)
    (λ it. iff_false c.equals.ensures c.if-not-equals.true it.kind))) c.replace.ensures.made

pub returns-then-not-equals-clause-cause : goal.returns-then-not-equals-clause-cause
returns-then-not-equals-clause-cause c = refused_turn _ _ _ _ _ _
    (replaces c.args.s.now.state c.args.e c.args.found.now c.args.props.now c.args.effect c.requires.found
    c.requires.begun (changed c.requires.complete
    (λ it. iff_false c.equals.ensures c.if-not-equals.true it.kind)
    (λ it. iff_false c.equals.ensures c.if-not-equals.true it.kind))) c.replace.ensures.cause

pub returns-then-equals-clause-made : goal.returns-then-equals-clause-made
returns-then-equals-clause-made c = made_turn _ _ _ _ _ _ (prepared_quiet _ _)
    (keeps c.args.s.now.state c.args.e c.args.found.now c.args.props.now c.args.effect c.requires.found
    c.requires.begun c.requires.complete
    (record { kind = c.equals.ensures.0 c.if-not-equals.false; props_are = c.equals-2.ensures.0 c.if-equals.true }))
    c.keep.ensures.made

pub returns-then-equals-clause-cause : goal.returns-then-equals-clause-cause
returns-then-equals-clause-cause c = refused_turn _ _ _ _ _ _
    (keeps c.args.s.now.state c.args.e c.args.found.now c.args.props.now c.args.effect c.requires.found
    c.requires.begun c.requires.complete
    (record { kind = c.equals.ensures.0 c.if-not-equals.false; props_are = c.equals-2.ensures.0 c.if-equals.true }))
    c.keep.ensures.cause

pub returns-in-InPlace-clause-made : goal.returns-in-InPlace-clause-made
returns-in-InPlace-clause-made c = made_turn _ _ _ _ _ _ (prepared_quiet _ _)
    (updates c.args.s.now.state c.args.e c.args.found.now c.args.props.now c.args.effect c.requires.found
    c.requires.begun c.requires.complete
    (record {
      kind = c.equals.ensures.0 c.if-not-equals.false;
      differs = iff_false c.equals-2.ensures
          c.if-equals.false;
      in_place = c.in-InPlace.is;
    })) c.update.ensures.made

pub returns-in-InPlace-clause-cause : goal.returns-in-InPlace-clause-cause
returns-in-InPlace-clause-cause c = refused_turn _ _ _ _ _ _
    (updates c.args.s.now.state c.args.e c.args.found.now c.args.props.now c.args.effect c.requires.found
    c.requires.begun c.requires.complete
    (record {
      kind = c.equals.ensures.0 c.if-not-equals.false;
      differs = iff_false c.equals-2.ensures
          c.if-equals.false;
      in_place = c.in-InPlace.is;
    })) c.update.ensures.cause

pub returns-in-Same-clause-made : goal.returns-in-Same-clause-made
returns-in-Same-clause-made c = made_turn _ _ _ _ _ _ (prepared_quiet _ _)
    (replaces c.args.s.now.state c.args.e c.args.found.now c.args.props.now c.args.effect c.requires.found
    c.requires.begun (changed c.requires.complete
    (λ it. iff_false c.equals-2.ensures c.if-equals.false it.props_are) (λ it. not_same _ c.in-Same.is it.in_place)))
    c.replace-in-Same.ensures.made

pub returns-in-Same-clause-cause : goal.returns-in-Same-clause-cause
returns-in-Same-clause-cause c = refused_turn _ _ _ _ _ _
    (replaces c.args.s.now.state c.args.e c.args.found.now c.args.props.now c.args.effect c.requires.found
    c.requires.begun (changed c.requires.complete
    (λ it. iff_false c.equals-2.ensures c.if-equals.false it.props_are) (λ it. not_same _ c.in-Same.is it.in_place)))
    c.replace-in-Same.ensures.cause

pub returns-in-Replace-clause-made : goal.returns-in-Replace-clause-made
returns-in-Replace-clause-made c = made_turn _ _ _ _ _ _ (prepared_quiet _ _)
    (replaces c.args.s.now.state c.args.e c.args.found.now c.args.props.now c.args.effect c.requires.found
    c.requires.begun (changed c.requires.complete
    (λ it. iff_false c.equals-2.ensures c.if-equals.false it.props_are)
    (λ it. not_replace _ c.in-Replace.is it.in_place))) c.replace-in-Replace.ensures.made

pub returns-in-Replace-clause-cause : goal.returns-in-Replace-clause-cause
returns-in-Replace-clause-cause c = refused_turn _ _ _ _ _ _
    (replaces c.args.s.now.state c.args.e c.args.found.now c.args.props.now c.args.effect c.requires.found
    c.requires.begun (changed c.requires.complete
    (λ it. iff_false c.equals-2.ensures c.if-equals.false it.props_are)
    (λ it. not_replace _ c.in-Replace.is it.in_place))) c.replace-in-Replace.ensures.cause
