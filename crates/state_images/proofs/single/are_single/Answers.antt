use Rattle.std.proofs.Common.{subst, sym}
use Rattle.state_images.specs.Claims.{NeighboursAgree, claimant, claimed}
use Rattle.state_images.proofs.Singles.{adjacent, ordered, reordered, single}
use Rattle.state_images.proofs.single.are_single.Goals as goal

pub returns : goal.returns
returns c =
    let by = c.in_ok-sorted.ensures in
    let e = c.as_slice.ensures.value in (
      λ t. reordered claimed claimant _ _ by.same
          (single claimed claimant _ by.sorted (subst NeighboursAgree e (c.neighbours_agree.ensures.0 t))),
      λ one. c.neighbours_agree.ensures.1
          (subst NeighboursAgree (sym e) (adjacent claimed claimant _ (ordered claimed claimant _ _ by.same one))),
    )
