use Rattle.std.proofs.Common.{◌≡◌, ◌<◌, ◌++◌, ◌∷◌, ◌∙◌, [], false, length, Some, ap, sym, arith}
use Rattle.std.specs.Prelude.{slice_get}
use Rattle.std.proofs.lemmas.Option.{slice_get-get_or}
use Rattle.core_state.specs.declared.Point.{Point}
use Rattle.core_state.specs.declared.change.Change.TheVariants.{PutPoint}
use Rattle.state_images.proofs.Pointing.{point_more}
use Rattle.state_images.proofs.writing.add_points_of.Goals as goal
use Rattle.state_images.proofs.writing.add_points_of.Goals.{in-Some+in_ok-copy+in_ok-push, in_default}

abbrev blank : Point
blank = record { stack = []; node = 0; inputs = []; done = false }

pub loop-place-preserved : goal.loop-place-preserved
loop-place-preserved c = elim c.match-get.branch [
  | in-Some+in_ok-copy+in_ok-push w ↦ (
      let g = rw w.in-Some.is at c.get.ensures in
      let at_p : slice_get c.args.graph.now.points c.loop-place.place ≡ Some w.in_ok-copy.field-0 =
      sym g ∙ ap Some (sym w.in_ok-copy.ensures) in
      let new : c.match-get.changes ≡ c.loop-place.changes ++ PutPoint w.in_ok-copy.field-0 ∷ [] = cc (w.changes-is, w.in_ok-push.ensures.ok) in
      point_more c.args.graph.now.points c.loop-place.place w.in_ok-copy.field-0 c.args.changes.now c.loop-place.changes c.match-get.changes
      at_p c.loop-place.invariant new)
  | in_default w ↦ (
      let g = rw w.in_default.is at c.get.ensures in
      let lt : c.loop-place.place < length c.args.graph.now.points = omega arith in
      let there = slice_get-get_or c.args.graph.now.points c.loop-place.place blank lt in
      absurd cc)
]
