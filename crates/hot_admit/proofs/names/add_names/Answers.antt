-- Each turn adds the edge from the condition of one name, where one has it.
use Rattle.std.proofs.Common.{◌∙◌, sym, arith}
use Rattle.hot_admit.proofs.Keyed.{keys_count}
use Rattle.hot_admit.proofs.NameEdges.{adds_more, adds_past}
use Rattle.hot_admit.proofs.names.add_names.Goals.{in-Ok+in_ok-add_edge-in-Ok, in-Err}
use Rattle.hot_admit.proofs.names.add_names.Goals as goal

pub add_edge-requires-clause-before : goal.add_edge-requires-clause-before
add_edge-requires-clause-before c =
    omega (
      arith,
      c.in-Ok.ensures.found,
      c.loop-name.invariant.same,
      c.requires.size,
      keys_count c.args.conds.now,
    )

pub loop-name-preserved : goal.loop-name-preserved
loop-name-preserved c = elim c.match-place_of.branch [
  | in-Ok+in_ok-add_edge-in-Ok w ↦ rw w.graph-is
      (adds_more c.args.conds.now c.args.names.now c.loop-name.name-index c.name-item.result c.args.after
      w.in-Ok.before _ c.loop-name.graph _ c.requires.rising c.loop-name-test.true c.name-item.is c.loop-name.invariant
      (sym c.place_of.ensures.place ∙ w.in-Ok.is) w.in_ok-add_edge-in-Ok.ensures.ok)
  | in-Err w ↦ rw w.graph-is
      (adds_past c.args.conds.now c.args.names.now c.loop-name.name-index c.name-item.result c.args.after _ _
      c.loop-name.graph c.requires.rising c.loop-name-test.true c.name-item.is c.loop-name.invariant
      (sym c.place_of.ensures.place ∙ w.in-Err.is))
]
