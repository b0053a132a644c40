use Rattle.std.proofs.Common.{◌<◌, ◌∙◌, length, refl, sym, ap, subst}
use Rattle.std.proofs.lemmas.Result.{on_ok_weaker, IfOk-weaker}
use Rattle.sync_points.specs.Points.{told, with_input}
use Rattle.sync_points.proofs.Gathers.{keeps_node}
use Rattle.sync_points.proofs.Places.{point_same, point_written, written_numbered}
use Rattle.sync_points.proofs.table.SyncPointsPoints.gather.Goals as goal

pub invariant_of-self : goal.invariant_of-self
invariant_of-self c =
    written_numbered c.self.inside.points.items c.place-place.result c.index_mut.result.now c.gather.new.self c.self.invariant
    (subst (λ ps. c.place-place.result < length ps) (sym c.self.view_is) c.place-place.ensures.within) c.index_mut.ensures.value (keeps_node c.args.from c.args.input c.index_mut.result.now c.gather.new.self c.gather.result c.gather.ensures.point c.gather.ensures.same)

pub returns-clause-points : goal.returns-clause-points
returns-clause-points c =
    on_ok_weaker c.gather.result (λ is.
    point_written c.args.self.now c.self.inside.points.items c.self.view_is c.args.node c.place-place.result c.place-place.ensures.place c.place-place.ensures.within
    c.index_mut.result.now c.index_mut.ensures.value (with_input c.args.from c.args.input) _ is refl) c.gather.ensures.point

pub returns-clause-told : goal.returns-clause-told
returns-clause-told c =
    IfOk-weaker c.gather.result _ _ (λ gathered tells p is.
    tells ∙ ap (told c.args.from c.args.input) (point_same c.args.self.now c.self.inside.points.items c.self.view_is c.args.node c.place-place.result c.place-place.ensures.place c.place-place.ensures.within
    c.index_mut.result.now c.index_mut.ensures.value p is)) c.gather.ensures.told
