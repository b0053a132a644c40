use Rattle.std.proofs.Common.{◌≡◌, ◌∙◌, ◌<◌, [], false, length, Some, sym, arith}
use Rattle.std.specs.Prelude.{slice_get}
use Rattle.std.proofs.lemmas.Option.{get_or_from_slice_get, slice_get-get_or}
use Rattle.core_state.specs.declared.Point.{Point}
use Rattle.core_state.specs.declared.change.Change.TheVariants.{PutPoint}
use Rattle.snapshot_codec.proofs.Putting.{more_put}
use Rattle.snapshot_codec.proofs.puts.put_points_of.Goals as goal
use Rattle.snapshot_codec.proofs.puts.put_points_of.Goals.{in-Some, in_default}

blank : Point
blank = record { stack = []; node = 0; inputs = []; done = false }

pub loop-place-preserved : goal.loop-place-preserved
loop-place-preserved c =
    let within : c.loop-place.place < length c.args.graph.now.points = omega arith in
    elim c.match-get.branch [
      | in-Some w ↦ (
          let point : Point = w.in-Some.point.now in
          let at : slice_get c.args.graph.now.points c.loop-place.place ≡ Some point = sym (rw w.in-Some.is at c.get.ensures) in
          more_put PutPoint c.args.graph.now.points c.loop-place.place point c.args.sheet.now c.loop-place.sheet
          c.match-get.sheet within (sym (get_or_from_slice_get c.args.graph.now.points c.loop-place.place point point at))
          c.loop-place.invariant (w.sheet-is ∙ w.put_bringing.ensures.bytes) w.put_bringing.ensures.proper)
      | in_default w ↦ (
          let none = rw w.in_default.is at c.get.ensures in
          let there = slice_get-get_or c.args.graph.now.points c.loop-place.place blank within in
          absurd cc)
    ]
