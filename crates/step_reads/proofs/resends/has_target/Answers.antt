use Rattle.std.proofs.Common.{◌≡◌, arith}
use Rattle.std.proofs.lemmas.Bool.{OnFalse_from}
use Rattle.std.proofs.lemmas.Bool.Decides.{nat_tests}
use Rattle.step_reads.proofs.TargetLemmas.{target_once}
use Rattle.step_reads.proofs.resends.has_target.Goals as goal

pub returns-in-Some-clause-no_ : goal.returns-in-Some-clause-no_
returns-in-Some-clause-no_ c = OnFalse_from c.eq.result _ (λ t to.
    let same : c.in-Some.target ≡ c.args.row =
    target_once _ _ _ c.in-Some.target c.args.row c.in-Some.ensures.some to in
    grind (arith, nat_tests, c.eq.ensures, t, same))
