use Rattle.std.proofs.Common.{refl}
use Rattle.std.proofs.lemmas.Bool.{iff_false}
use Rattle.check_steps.proofs.Fenced.{OnFalse_not, OnTrue_not, begins_not_plain, plain_no_begin, plain_this}
use Rattle.check_steps.proofs.Fenced.{reads_another, reads_this}
use Rattle.check_steps.proofs.fence.is_another.Goals as goal

pub returns-in-Begin-clause-yes : goal.returns-in-Begin-clause-yes
returns-in-Begin-clause-yes c = OnTrue_not c.is_read.result _ (λ f.
    reads_another _ c.args.e _ _ c.in-Some.ensures.some c.args.work.now _ c.in-Begin.is
    (iff_false c.is_read.ensures f))

pub returns-in-Begin-clause-no_ : goal.returns-in-Begin-clause-no_
returns-in-Begin-clause-no_ c = OnFalse_not c.is_read.result _ (λ t.
    reads_this _ c.args.e _ _ c.in-Some.ensures.some c.args.work.now _ c.in-Begin.is (c.is_read.ensures.0 t))

pub returns-in-Plain-clause-yes : goal.returns-in-Plain-clause-yes
returns-in-Plain-clause-yes c =
    begins_not_plain _ c.args.e _ _ c.in-Some.ensures.some c.args.work.now c.in-Plain.is

pub returns-in-Begin-work-clause-yes : goal.returns-in-Begin-work-clause-yes
returns-in-Begin-work-clause-yes c = plain_no_begin _ c.args.e _ _ c.requires.works (c.in-None.ensures.none refl)
    c.args.work.now _ c.in-Begin-work.is

pub returns-in-Plain-work-clause-no_ : goal.returns-in-Plain-work-clause-no_
returns-in-Plain-work-clause-no_ c = plain_this _ c.args.e _ _ c.requires.works (c.in-None.ensures.none refl)
    c.args.work.now c.in-Plain-work.is
