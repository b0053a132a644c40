use Rattle.state_images.specs.Replays.{joined}
use Rattle.state_images.proofs.Making.{Leaves}
use Rattle.state_images.proofs.replaying.make_all.Given as goal

abbrev pub invariant-loop-list : goal.invariant-loop-list
invariant-loop-list l = Leaves (joined l.list-iterator.rest.items) l.state.state (joined l.fn.lists) l.fn.state.state
