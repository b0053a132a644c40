use Rattle.std.proofs.Common.{◌↔◌, ◌∙◌, Bool, Err, List, IsTrue, Ok, Result, subst, sym}
use Rattle.std.specs.Prelude.{IfOk}
use Rattle.step_relation.specs.Fits.{Fits}
use Rattle.step_relation.specs.Opening.{empty_opening}
use Rattle.headline_reader.specs.declared.possible.Possible.{Possible}
use Rattle.headline_reader.specs.Items.{Finds}
use Rattle.headline_reader.proofs.FitsFound.{finds-fits}
use Rattle.headline_reader.proofs.fitting.fits.Goals as goal

told_of : {E A B : Type 0} (r : Result Bool E) → A ↔ B → IfOk r (λ b. IsTrue b ↔ A) → IfOk r (λ b. IsTrue b ↔ B)
told_of (Ok b) same told = (λ is. same.0 (told.0 is), λ is. told.1 (same.1 is))
told_of (Err e) same told = tt

pub returns : goal.returns
returns c engines leaving =
    let all = c.as_slice.ensures ∙ c.in_ok-all.ensures in
    let fits = finds-fits engines leaving c.args.entries.now c.args.stack.now c.args.plan.now c.finds.ensures.plan in
    told_of c.finds.result
    (subst (λ (ps : List Possible). Finds ps c.args.plan.now ↔ Fits (empty_opening engines leaving) c.args.entries.now
    c.args.stack.now c.args.plan.now) (sym all) fits) c.finds.ensures.found
