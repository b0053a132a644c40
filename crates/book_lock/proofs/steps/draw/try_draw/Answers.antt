use Rattle.std.proofs.Common.{lit<, refl, arith, ◌+◌}
use mathlib.Core.Option.{none}
use Rattle.atomic_table.specs.Table.{step}
use Rattle.book_lock.proofs.Drawing.{draws_for}
use Rattle.book_lock.proofs.steps.draw.try_draw.Goals as goal

pub compare_exchange-requires : goal.compare_exchange-requires
compare_exchange-requires g c = (
  c.requires.here,
  rw c.requires.words (lit< tt),
  draws_for g.T.Chronicle.list g.T.Chronicle.origin c.args.board.now.shared.key.value _ _ c.args.next (step c.args.board.now.shared.table_id.slots 0 c.args.next (c.args.next + 1) none) _ c.requires.idle (omega (arith, c.requires.room)) refl,
)
