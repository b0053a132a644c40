use Rattle.std.proofs.Common.{◌∙◌, sym, true≢false}
use Rattle.state_images.proofs.numbering.named_are_below.Goals as goal
use Rattle.state_images.proofs.numbering.named_are_below.Goals.{else-are_below, then-are_below}

pub returns-then-row_below : goal.returns-then-row_below
returns-then-row_below c = elim c.if-are_below.branch [
  | then-are_below w ↦ (
    λ t. record {
      required = c.are_below.ensures.0 w.if-are_below.true;
      replaces = w.row_below.ensures.0 (sym w.value-is ∙ c.if-row_below.true);
      replaced_by = c.row_below-then-row_below.ensures.0 t;
    },
    λ it. c.row_below-then-row_below.ensures.1 it.replaced_by,
  )
  | else-are_below w ↦ absurd (true≢false (sym c.if-row_below.true ∙ (w.value-is ∙ w.if-are_below.false)))
]
