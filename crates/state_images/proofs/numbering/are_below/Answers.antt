use Rattle.std.proofs.Common.{◌<◌, length, subst, sym, true≢false, arith}
use Rattle.std.proofs.lemmas.List.Elements.{Contains-get_or}
use Rattle.step_relation.specs.Numbered.{AllBelow}
use Rattle.state_images.proofs.numbering.are_below.Goals as goal

pub returns-then-next-get : goal.returns-then-next-get
returns-then-next-get c =
    let slice = c.as_slice-row-items.result.now in
    let lt : c.loop-row.row-index < length slice = c.loop-row-test.true in
    let le = c.if-next-get.true in
    let value = c.get.ensures.value in (
      λ f. absurd (true≢false (sym f)),
      λ all. let below = subst (AllBelow c.args.next) (sym c.as_slice-row-items.ensures) all _
          (Contains-get_or slice c.loop-row.row-index c.row-item.result lt) in absurd (omega (arith, le, value, below)),
    )
