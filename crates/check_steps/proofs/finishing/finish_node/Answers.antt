use Rattle.std.proofs.Common.{◌∙◌, ◌∷◌, [], ap}
use Rattle.std.proofs.lemmas.Bool.{OnFalse_at, OnTrue_at}
use Rattle.core_state.specs.declared.entry.Entry.{Entry}
use Rattle.check_steps.proofs.Passings.{completes, passes}
use Rattle.check_steps.proofs.Turned.{made_turn, nothing_quiet, refused_turn}
use Rattle.check_steps.proofs.finishing.finish_node.Goals as goal

pub returns-then-not-settles-clause-made : goal.returns-then-not-settles-clause-made
returns-then-not-settles-clause-made c = made_turn _ _ _ _ _ _ nothing_quiet
    (passes c.args.s.now.state c.args.e c.args.passed.now c.requires _ _ c.new.ensures c.new-then-not-settles.ensures
    (OnFalse_at c.if-not-settles.true (c.settles.ensures.no_ _ _ c.requires)))
    c.pass_on.ensures.made

pub returns-then-not-settles-clause-cause : goal.returns-then-not-settles-clause-cause
returns-then-not-settles-clause-cause c = refused_turn _ _ _ _ _ _
    (passes c.args.s.now.state c.args.e c.args.passed.now c.requires _ c.new-then-not-settles.result c.new.ensures
    c.new-then-not-settles.ensures
    (OnFalse_at c.if-not-settles.true (c.settles.ensures.no_ _ _ c.requires)))
    c.pass_on.ensures.cause

pub returns-clause-made : goal.returns-clause-made
returns-clause-made c = made_turn _ _ _ _ _ _ nothing_quiet
    (completes c.args.s.now.state c.args.e c.args.passed.now c.requires _ _ c.in_ok-mark.ensures
    (c.in_ok-told.ensures ∙ ap (λ (x : Entry). x ∷ []) c.in_ok-complete_mark.ensures)
    (OnTrue_at c.if-not-settles.false (c.settles.ensures.yes _ _ c.requires)))
    c.pass_on-2.ensures.made

pub returns-clause-cause : goal.returns-clause-cause
returns-clause-cause c = refused_turn _ _ _ _ _ _
    (completes c.args.s.now.state c.args.e c.args.passed.now c.requires _ c.in_ok-told.told c.in_ok-mark.ensures
    (c.in_ok-told.ensures ∙ ap (λ (x : Entry). x ∷ []) c.in_ok-complete_mark.ensures)
    (OnTrue_at c.if-not-settles.false (c.settles.ensures.yes _ _ c.requires)))
    c.pass_on-2.ensures.cause
