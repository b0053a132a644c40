-- The member at the place is the only one that is marked now.
use Rattle.std.proofs.Common.{◌∙◌, List, Bool, true, ap, sym, slice_set}
use Rattle.hot_admit.proofs.KeyMarks.{mark_placed, mark_unplaced}
use Rattle.hot_admit.proofs.kinds.mark_known.Goals as goal

pub returns-in-Ok : goal.returns-in-Ok
returns-in-Ok c = λ known is.
    ap (λ (ms : List Bool). slice_set ms c.in-Ok.place true) is
    ∙ mark_placed known c.args.members.now c.args.key.now c.in-Ok.place c.requires.rising
    (sym c.place_of.ensures.place ∙ c.in-Ok.is)

pub returns-in-Err : goal.returns-in-Err
returns-in-Err c = λ known is.
    is ∙ mark_unplaced known c.args.members.now c.args.key.now c.in-Err.field-0 c.requires.rising
    (sym c.place_of.ensures.place ∙ c.in-Err.is)
