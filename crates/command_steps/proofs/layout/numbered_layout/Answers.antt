-- As many rows and leaves are wanted as the layout has.
use Rattle.std.proofs.Common.{inr, refl}
use Rattle.std.proofs.lemmas.Bool.{both_ways}
use Rattle.command_steps.specs.Layouts.{HasNumbers}
use Rattle.command_steps.proofs.layout.numbered_layout.Goals as goal

pub returns-else-has_numbers-clause-err : goal.returns-else-has_numbers-clause-err
returns-else-has_numbers-clause-err c =
    let laid = c.in_ok-layout.ensures in
    inr (
      refl,
      laid.lays,
      λ has.
          let enough : HasNumbers c.next.result.now c.args.stacks c.lacking-rows.result c.len.result =
          rw (
            c.next.ensures,
            c.lacking-rows.ensures.value,
            c.as_slice.ensures,
            c.len.ensures,
            ← laid.many,
            ←
                laid.leaves_are,
          ) has in
          both_ways c.has_numbers.result c.if-has_numbers.false (c.has_numbers.ensures.1 enough),
    )
