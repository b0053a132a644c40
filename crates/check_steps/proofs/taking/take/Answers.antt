use Rattle.std.proofs.Common.{refl}
use Rattle.std.proofs.lemmas.Bool.{OnFalse_at, OnTrue_at, iff_false}
use Rattle.step_relation.specs.Takes.{outdated}
use Rattle.check_steps.proofs.Takings.{done_letter, drops, held_letter, holds, steals}
use Rattle.check_steps.proofs.Turned.{made_turn, nothing_quiet, refused_turn}
use Rattle.check_steps.proofs.taking.take.Goals as goal

pub returns-in_default-clause-made : goal.returns-in_default-clause-made
returns-in_default-clause-made c = made_turn _ _ _ _ _ _ nothing_quiet
    (drops c.args.s.now.state c.args.e c.args.letter.now c.requires (outdated (c.in_default.ensures.none refl)))
    c.drop_letter.ensures.made

pub returns-in_default-clause-cause : goal.returns-in_default-clause-cause
returns-in_default-clause-cause c = refused_turn _ _ _ _ _ _
    (drops c.args.s.now.state c.args.e c.args.letter.now c.requires (outdated (c.in_default.ensures.none refl)))
    c.drop_letter.ensures.cause

pub returns-then-is_done-clause-made : goal.returns-then-is_done-clause-made
returns-then-is_done-clause-made c = made_turn _ _ _ _ _ _ nothing_quiet
    (drops c.args.s.now.state c.args.e c.args.letter.now c.requires
    (done_letter c.args.s.now.state c.args.e c.args.letter.now c.requires c.in-Some.meant.target _ _ _ _
    c.in-Some.ensures.some (OnTrue_at c.if-is_done.true c.is_done.ensures.yes)))
    c.drop_letter-then-is_done.ensures.made

pub returns-then-is_done-clause-cause : goal.returns-then-is_done-clause-cause
returns-then-is_done-clause-cause c = refused_turn _ _ _ _ _ _
    (drops c.args.s.now.state c.args.e c.args.letter.now c.requires
    (done_letter c.args.s.now.state c.args.e c.args.letter.now c.requires c.in-Some.meant.target _ _ _ _
    c.in-Some.ensures.some (OnTrue_at c.if-is_done.true c.is_done.ensures.yes)))
    c.drop_letter-then-is_done.ensures.cause

pub returns-in-None-clause-made : goal.returns-in-None-clause-made
returns-in-None-clause-made c = made_turn _ _ _ _ _ _ nothing_quiet
    (holds c.args.s.now.state c.args.e c.args.letter.now c.requires c.in-Some.meant.target _ _ _ _
    c.in-Some.ensures.some
    (OnFalse_at c.if-is_done.false c.is_done.ensures.no_) (c.in-None.ensures.none refl)) c.hold.ensures.made

pub returns-in-None-clause-cause : goal.returns-in-None-clause-cause
returns-in-None-clause-cause c = refused_turn _ _ _ _ _ _
    (holds c.args.s.now.state c.args.e c.args.letter.now c.requires c.in-Some.meant.target _ _ _ _
    c.in-Some.ensures.some
    (OnFalse_at c.if-is_done.false c.is_done.ensures.no_) (c.in-None.ensures.none refl)) c.hold.ensures.cause

pub returns-then-is_live-clause-made : goal.returns-then-is_live-clause-made
returns-then-is_live-clause-made c = made_turn _ _ _ _ _ _ nothing_quiet
    (drops c.args.s.now.state c.args.e c.args.letter.now c.requires
    (held_letter c.args.s.now.state c.args.e c.args.letter.now c.requires c.in-Some.meant.target _ _ _ _
    c.in-Some.ensures.some _ c.in-Some-holder.job.now c.in-Some-holder.ensures.some
    (c.is_live.ensures.0 c.if-is_live.true))) c.drop_letter-then-is_live.ensures.made

pub returns-then-is_live-clause-cause : goal.returns-then-is_live-clause-cause
returns-then-is_live-clause-cause c = refused_turn _ _ _ _ _ _
    (drops c.args.s.now.state c.args.e c.args.letter.now c.requires
    (held_letter c.args.s.now.state c.args.e c.args.letter.now c.requires c.in-Some.meant.target _ _ _ _
    c.in-Some.ensures.some _ c.in-Some-holder.job.now c.in-Some-holder.ensures.some
    (c.is_live.ensures.0 c.if-is_live.true))) c.drop_letter-then-is_live.ensures.cause

pub returns-else-is_live-clause-made : goal.returns-else-is_live-clause-made
returns-else-is_live-clause-made c = made_turn _ _ _ _ _ _ nothing_quiet
    (steals c.args.s.now.state c.args.e c.args.letter.now c.requires c.in-Some.meant.target _ _ _ _
    c.in-Some.ensures.some
    (OnFalse_at c.if-is_done.false c.is_done.ensures.no_) _ c.in-Some-holder.job.now c.in-Some-holder.ensures.some
    (iff_false c.is_live.ensures c.if-is_live.false)) c.steal.ensures.made

pub returns-else-is_live-clause-cause : goal.returns-else-is_live-clause-cause
returns-else-is_live-clause-cause c = refused_turn _ _ _ _ _ _
    (steals c.args.s.now.state c.args.e c.args.letter.now c.requires c.in-Some.meant.target _ _ _ _
    c.in-Some.ensures.some
    (OnFalse_at c.if-is_done.false c.is_done.ensures.no_) _ c.in-Some-holder.job.now c.in-Some-holder.ensures.some
    (iff_false c.is_live.ensures c.if-is_live.false)) c.steal.ensures.cause
