-- What changes made has its snapshot.
use Rattle.core_state.specs.State.{StateData}
use Rattle.step_relation.specs.Images.{IsMade}
use Rattle.state_images.specs.Snapshots.{IsSnapshot, snapshot}
use Rattle.state_images.proofs.Forming.{made_formed}
use Rattle.state_images.proofs.Found.{snapshot_keepable}
use Rattle.state_images.proofs.Snapping.{snapshot_leads}

pub made_snapshot : (s : StateData) → IsMade s → IsSnapshot s (snapshot s)
made_snapshot s made =
    let f = made_formed s made in
    let l = snapshot_leads s f in
    record { applies = l.applies; gives = l.gives; keepable = snapshot_keepable s f }
