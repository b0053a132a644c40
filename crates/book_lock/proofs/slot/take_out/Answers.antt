use Rattle.std.proofs.Common.{◌∷◌, ℕ, List, Option, Some, ap, sym, ◌∙◌}
use Rattle.atomic_table.specs.Table.{rest}
use Rattle.book_lock.proofs.slot.take_out.Goals as goal

pub exchange-requires : goal.exchange-requires
exchange-requires g c =
    let full = c.requires.full in
    (c.requires.here, (Some full.0, full.1 ∙ ap (λ (r : List (ℕ × Option g.row.T.Denot)). (0, Some full.0) ∷ r) (sym (ap rest full.1))))
