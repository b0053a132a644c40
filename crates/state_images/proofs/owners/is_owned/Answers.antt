use Rattle.std.proofs.lemmas.Result.{IfOk-weaker}
use Rattle.state_images.proofs.Claiming.{owned_single}
use Rattle.state_images.proofs.Forming.{made_formed}
use Rattle.state_images.proofs.owners.is_owned.Goals as goal

pub returns : goal.returns
returns c =
    let s = c.args.s.now.state in
    let owned = owned_single s (made_formed s c.requires) in
    IfOk-weaker c.are_single.result _ _ (λ b told.
    let told_of = rw c.in_ok-claims_of_stacks.ensures at told in
    (λ t. owned.0 (told_of.0 t), λ o. told_of.1 (owned.1 o))) c.are_single.ensures
