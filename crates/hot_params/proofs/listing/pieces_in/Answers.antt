use Rattle.hot_params.proofs.Pieces.{next_piece, last_piece}
use Rattle.hot_params.proofs.listing.pieces_in.Goals as goal

pub loop-piece-preserved : goal.loop-piece-preserved
loop-piece-preserved c = (
  c.in-Some.ensures.utf8.1,
  rw c.in_ok-push_trimmed.ensures (next_piece _ _ _ _ _ c.in-Some.ensures.parts c.loop-piece.invariant.1),
)

pub returns : goal.returns
returns c = rw c.in_ok-push_trimmed-2.ensures (last_piece _ _ _ c.in_default.ensures.parts c.loop-piece.invariant.1)
