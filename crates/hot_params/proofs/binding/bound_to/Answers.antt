use Rattle.hot_params.proofs.Depths.{bound_depth}
use Rattle.hot_params.proofs.binding.bound_to.Goals as goal

pub bound_of-requires : goal.bound_of-requires
bound_of-requires g c =
    rw c.in_ok-with_pseudo-in-Ok.ensures (bound_depth _ _ _ _ _ c.requires.given c.requires.template
    (rw c.in_ok-params.ensures at c.in-Ok.ensures.ok))
