use Rattle.state_images.proofs.Forming.{made_formed}
use Rattle.state_images.proofs.Snapping.{formed_made}
use Rattle.state_images.proofs.laws.made_states_are_formed.Goals as goal

pub returns : goal.returns
returns c = λ s. (made_formed s, formed_made s)
