use Rattle.state_images.proofs.Snapshotting.{made_snapshot}
use Rattle.state_images.proofs.laws.made_states_have_a_snapshot.Goals as goal

pub returns : goal.returns
returns c = made_snapshot
