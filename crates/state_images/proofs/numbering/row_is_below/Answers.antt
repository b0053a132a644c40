use Rattle.std.proofs.Common.{subst, sym}
use Rattle.state_images.specs.Ties.{NamedBelow}
use Rattle.state_images.proofs.Below.{row_below}
use Rattle.state_images.proofs.numbering.row_is_below.Goals as goal

pub returns-then-own_are_below : goal.returns-then-own_are_below
returns-then-own_are_below c =
    let next = c.args.next.now in
    let r = c.args.row.now in
    let told = row_below next.row next.trav next.engine r in
    let own = c.own_are_below.ensures.0 c.if-own_are_below.true in
    let e = c.get.ensures.value in (
      λ t. told.0 (own, subst (λ (n : _). NamedBelow n r) e (c.named_are_below.ensures.0 t)),
      λ below. c.named_are_below.ensures.1 (subst (λ (n : _). NamedBelow n r) (sym e) (told.1 below).1),
    )
