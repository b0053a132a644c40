-- A run that goes one call on.
use Rattle.std.proofs.Common.{◌≡◌, ◌<◌, ◌+◌, ◌∙◌, ℕ, List, [], ◌∷◌, ◌++◌, length, get_or, take, refl, sym, ap, subst, subst₂}
use Rattle.std.proofs.lemmas.List.{take_more}
use Rattle.sync_points.specs.declared.sync_point.SyncPoint.{SyncPoint}
use Rattle.sync_points.specs.declared.ops.PointOp.{PointOp}
use Rattle.sync_points.specs.declared.ops.PointAnswer.{PointAnswer}
use Rattle.sync_points.specs.Runs.{Does, Runs}

pub runs_more : (os : List PointOp) (points mid new : List SyncPoint) (done : List PointAnswer) (o : PointOp) (a : PointAnswer) → Runs os points done mid → Does o mid a new
    → Runs (os ++ o ∷ []) points (done ++ a ∷ []) new
runs_more [] points mid new [] o a h d = (new, subst (λ m. Does o m a new) h d, refl)
runs_more [] points mid new (x ∷ xs) o a h d = absurd h
runs_more (p ∷ ps) points mid new [] o a h d = absurd h
runs_more (p ∷ ps) points mid new (x ∷ xs) o a h d = (h.0, h.1, runs_more ps h.0 mid new xs o a h.2 d)

-- before the first call nothing is done
pub runs_none : (os : List PointOp) (points new : List SyncPoint) (done : List PointAnswer) → done ≡ [] → new ≡ points → Runs (take 0 os) points done new
runs_none [] points new done e f = subst (λ answers. Runs [] points answers new) (sym e) f
runs_none (o ∷ os) points new done e f = subst (λ answers. Runs [] points answers new) (sym e) f

-- the call at a place is made
pub runs_next : (os : List PointOp) (i : ℕ) (points mid new : List SyncPoint) (done done' : List PointAnswer) (o : PointOp) (a : PointAnswer) → i < length os → o ≡ get_or os i o
    → done' ≡ done ++ a ∷ [] → Runs (take i os) points done mid → Does o mid a new → Runs (take (i + 1) os) points done' new
runs_next os i points mid new done done' o a lt read e h d =
    subst₂ (λ xs answers. Runs xs points answers new) (sym (take_more os i o lt ∙ ap (λ x. take i os ++ x ∷ []) (sym read))) (sym e)
    (runs_more (take i os) points mid new done o a h d)
