use Rattle.state_images.proofs.Making.{Leaves}
use Rattle.state_images.proofs.replaying.make.Given as goal

abbrev pub invariant-loop-change : goal.invariant-loop-change
invariant-loop-change l = Leaves l.change-iterator.rest.items l.state.state l.fn.changes l.fn.state.state
