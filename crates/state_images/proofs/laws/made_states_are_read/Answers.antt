use Rattle.state_images.proofs.Forming.{made_formed}
use Rattle.state_images.proofs.Found.{formed_read, formed_whole}
use Rattle.state_images.proofs.laws.made_states_are_read.Goals as goal

pub returns : goal.returns
returns c = λ s made. (formed_whole s (made_formed s made), formed_read s (made_formed s made))
