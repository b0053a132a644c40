-- One row more is noted.
use Rattle.std.proofs.Common.{◌≡◌, ◌<◌, ◌∙◌, ◌+◌, ◌++◌, ◌∷◌, [], length, map, ap, sym, arith, take, get_or}
use Rattle.std.proofs.lemmas.List.{get_or-map, length-map, take_more}
use Rattle.command_steps.specs.Choices.{found_for, noted}
use Rattle.command_steps.proofs.Noted.{noted_found}
use Rattle.command_steps.proofs.choice.found_for.Goals as goal

pub loop-row-preserved : goal.loop-row-preserved
loop-row-preserved c =
    let k = c.loop-row.row-index in
    let rows = map (λ r. r.now) c.args.rows.now in
    let r = c.row-item.result.now in
    let within : k < length c.args.rows.now = c.loop-row-test.true in
    let at : get_or rows k r ≡ r = get_or-map (λ r. r.now) c.args.rows.now k c.row-item.result r within
    ∙ sym (ap (λ x. x.now) c.row-item.is) in
    let more : take (k + 1) rows ≡ take k rows ++ r ∷ [] =
    take_more rows k r (omega (arith, within, length-map c.args.rows.now (λ r. r.now)))
    ∙ ap (λ x. take k rows ++ x ∷ []) at in
    c.note_row.ensures ∙ ap (noted c.args.items.now r) c.loop-row.invariant
    ∙ noted_found c.args.items.now (take k rows) r c.requires
    ∙ ap (λ all. found_for all c.args.items.now) (sym more)
