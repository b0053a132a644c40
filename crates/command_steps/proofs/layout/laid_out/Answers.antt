-- The graph is built with the numbers that are drawn, or with as many others.
use Rattle.std.proofs.Common.{◌≡◌, ◌∙◌, List, ap, length, map}
use Rattle.row_table.specs.declared.row.Row.{Row}
use Rattle.command_steps.specs.Choices.{found_for}
use Rattle.std.proofs.lemmas.List.{length-map}
use Rattle.command_steps.proofs.Laid.{laid_out_is}
use Rattle.command_steps.proofs.layout.laid_out.Goals as goal

pub build-requires-clause-chosen : goal.build-requires-clause-chosen
build-requires-clause-chosen c =
    ap length c.as_slice-4.ensures.value ∙ c.in_ok-chosen.ensures.length
    ∙ ap length (c.as_slice-2.ensures ∙ c.in_ok-found.ensures)
    ∙ length-map c.args.items.now _

pub returns : goal.returns
returns c =
    let standing : List Row = map (λ r. r.now) c.in_ok-standing.standing.items in
    let found : c.in_ok-found.found ≡ found_for standing c.args.items.now =
    rw c.as_slice.ensures.value at c.in_ok-found.ensures in
    laid_out_is c.args.s.now.state c.args.stack.now c.args.items.now standing c.in_ok-standing.ensures _ found
    c.in_ok-chosen.chosen.items
    (rw c.as_slice-2.ensures at c.in_ok-chosen.ensures.length)
    (rw (c.as_slice-2.ensures, c.next.ensures) at c.in_ok-chosen.ensures.exact)
    (rw (c.as_slice-4.ensures.value, c.as_slice-5.ensures.value, c.in_ok-briefs.ensures, c.as_slice-3.ensures.value)
    at c.in_ok-graph.ensures.exact)
    c.in_ok-leaves.ensures
