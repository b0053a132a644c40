use Rattle.std.proofs.Common.{ap, sym, ◌∙◌, ◌∷◌, [], Some}
use Rattle.book_lock.proofs.Opening.{kept_opened}
use Rattle.book_lock.proofs.shared.Shared.new.Goals as goal

pub new-requires : goal.new-requires
new-requires g c =
    kept_opened g.T.Chronicle.list g.T.Chronicle.origin c.of-opening.result.value c.in_ok-slots.slots.items
    (c.in_ok-slots.ensures.ok ∙ ap (λ (v : g.row.T.Denot). Some v ∷ []) (sym c.of-opening.ensures))
