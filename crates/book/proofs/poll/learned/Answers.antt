-- Room for the step, and nothing else has changed.
use Rattle.book.proofs.Calling.{answer_storable}
use Rattle.book.proofs.poll.learned.Goals as goal

pub make_room-requires : goal.make_room-requires
make_room-requires g c = (answer_storable _ c.requires.workable c.args.e c.args.answer.now _
    c.in_ok-made.ensures.made).keepable
