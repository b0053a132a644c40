-- Each part of the draft is what the layout lays.
use Rattle.std.proofs.Common.{◌≡◌, ◌∙◌, refl, sym, ap, length}
use Rattle.step_relation.specs.Commands.{stack_set}
use Rattle.heat_plan.specs.declared.phase.Status.TheVariants.{InProgress}
use Rattle.command_steps.specs.Orders.{sets_of}
use Rattle.command_steps.proofs.draft.drafted.Goals as goal

pub rows_made-requires-clause-length : goal.rows_made-requires-clause-length
rows_made-requires-clause-length c =
    ap length c.as_slice-found.ensures ∙ c.requires.laid_out.each ∙ ap length (sym c.items.ensures.value)

pub returns : goal.returns
returns c =
    let laid = c.requires.laid_out in
    let stack_is : c.in_ok-stack.stack ≡ stack_set c.args.s.now.state c.args.name.now (sets_of c.args.order)
    InProgress =
    rw (c.trav_of-trav.ensures, c.next-next.ensures) at c.in_ok-stack.ensures in
    record {
      lays = laid.lays;
      actor_is = refl;
      next_are = rw (
        c.next-next.ensures,
        c.lacking.ensures.value,
        c.as_slice-found.ensures,
        c.as_slice-leaves.ensures,
        ←
            laid.many,
        ← laid.leaves_are,
      ) at c.past_command-next.ensures;
      stack_is = stack_is;
      past_is = refl;
      rows_are = (rw (c.trav_of-trav.ensures, c.next-next.ensures, c.items.ensures.value, c.as_slice-found.ensures) at
          c.in_ok-rows.ensures) ∙ sym laid.rows_are;
      graph_is = sym (laid.graph_is c.requires.numbers.rows_fit);
      letters_are =
          rw (c.next-next.ensures, c.as_slice-leaves.ensures, stack_is, ← laid.leaves_are) at c.in_ok-letters.ensures;
      numbers = rw (laid.many, laid.leaves_are) c.requires.numbers;
    }
