-- A run that goes one call on.
use Rattle.std.proofs.Common.{◌≡◌, ◌<◌, ◌+◌, ◌∙◌, ℕ, List, [], ◌∷◌, ◌++◌, length, get_or, take, refl, sym, ap, subst, subst₂}
use Rattle.std.proofs.lemmas.List.{take_more}
use Rattle.row_table.specs.declared.row.Row.{Row}
use Rattle.row_table.specs.declared.ops.RowOp.{RowOp}
use Rattle.row_table.specs.declared.ops.RowAnswer.{RowAnswer}
use Rattle.row_table.specs.Runs.{Does, Runs}

pub runs_more : (os : List RowOp) (rows mid new : List Row) (done : List RowAnswer) (o : RowOp) (a : RowAnswer) → Runs os rows done mid → Does o mid a new
    → Runs (os ++ o ∷ []) rows (done ++ a ∷ []) new
runs_more [] rows mid new [] o a h d = (new, subst (λ m. Does o m a new) h d, refl)
runs_more [] rows mid new (x ∷ xs) o a h d = absurd h
runs_more (p ∷ ps) rows mid new [] o a h d = absurd h
runs_more (p ∷ ps) rows mid new (x ∷ xs) o a h d = (h.0, h.1, runs_more ps h.0 mid new xs o a h.2 d)

-- before the first call nothing is done
pub runs_none : (os : List RowOp) (rows new : List Row) (done : List RowAnswer) → done ≡ [] → new ≡ rows → Runs (take 0 os) rows done new
runs_none [] rows new done e f = subst (λ answers. Runs [] rows answers new) (sym e) f
runs_none (o ∷ os) rows new done e f = subst (λ answers. Runs [] rows answers new) (sym e) f

-- the call at a place is made
pub runs_next : (os : List RowOp) (i : ℕ) (rows mid new : List Row) (done done' : List RowAnswer) (o : RowOp) (a : RowAnswer) → i < length os → o ≡ get_or os i o
    → done' ≡ done ++ a ∷ [] → Runs (take i os) rows done mid → Does o mid a new → Runs (take (i + 1) os) rows done' new
runs_next os i rows mid new done done' o a lt read e h d =
    subst₂ (λ xs answers. Runs xs rows answers new) (sym (take_more os i o lt ∙ ap (λ x. take i os ++ x ∷ []) (sym read))) (sym e)
    (runs_more (take i os) rows mid new done o a h d)
