use Rattle.state_images.proofs.Forming.{formed_applied, made_formed}
use Rattle.state_images.proofs.Found.{keepable_applied}
use Rattle.state_images.proofs.Snapping.{formed_made}
use Rattle.core_state.specs.Changes.{applied}
use Rattle.state_images.proofs.laws.changes_keep_made.Goals as goal

pub returns-clause-made : goal.returns-clause-made
returns-clause-made c = λ s cs made all. formed_made (applied cs s) (formed_applied cs s all (made_formed s made))

pub returns-clause-keepable : goal.returns-clause-keepable
returns-clause-keepable c = keepable_applied
