use Rattle.std.proofs.Common.{ap, lit<, Option}
use Rattle.atomic_table.specs.Table.{Me}
use Rattle.book_lock.specs.declared.view.View.{View}
use Rattle.book_lock.proofs.Joining.{joins_for}
use Rattle.book_lock.proofs.steps.join.merge.Goals as goal

pub join_seat-requires : goal.join_seat-requires
join_seat-requires g c =
    let T = g.row.T.Denot in
    let (v, w, is, are, siblings) = c.requires.siblings in (
      c.requires.here,
      c.requires.there,
      ap (λ (m : Me (Option T) (View T)). m.1) are,
      rw c.requires.words (lit< tt),
      joins_for g.T.Chronicle.list g.T.Chronicle.origin c.args.board.now.shared.key.value _ _ _ _ (v, w, ap (λ (m : Me (Option T) (View T)). m.0) is, ap (λ (m : Me (Option T) (View T)). m.0) are, siblings),
    )
