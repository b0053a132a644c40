-- What a gathering tells, and what it leaves to count.
use Rattle.std.proofs.Common.{◌≡◌, ◌+◌, ◌∷◌, ◌++◌, ◌∙◌, ℕ, Bool, true, false, true≢false, cond, [], nat_eq, refl, sym, ap, arith}
use Rattle.std.specs.Prelude.{not, Result, Ok, Err, OnOk, OnErr}
use Rattle.std.specs.List.{count_by}
use Rattle.sync_points.specs.declared.point.Input.{Input}
use Rattle.sync_points.specs.declared.sync_point.SyncPoint.{SyncPoint}
use Rattle.sync_points.specs.declared.sync_point.Gathered.{Gathered}
use Rattle.sync_points.specs.Points.{given, has_from, is_full, missing_of, point_key, told, with_input}
use Rattle.sync_points.proofs.Counts.{missing_falls, none_missing}

abbrev pub both : Bool → Bool → Gathered
both new full = record { new = new; full = full }

pub told_of : (from : ℕ) (input : Input) (x y p : SyncPoint) (new full : Bool) → x ≡ p → y ≡ with_input from input x
    → new ≡ not (has_from from x.point.inputs) → full ≡ is_full y → both new full ≡ told from input p
told_of from input x y p new full same is is_new is_all =
    ap (λ b. both b full) is_new ∙ ap (both (not (has_from from x.point.inputs))) (is_all ∙ ap is_full is) ∙ ap (told from input) same

-- the count, once a node that had given none gives an input
pub missing_after : (from : ℕ) (input : Input) (p q : SyncPoint) (m e : ℕ) → m ≡ missing_of p → q ≡ with_input from input p → has_from from p.point.inputs ≡ false
    → e ≡ count_by (λ n. nat_eq n from) q.preds → m ≡ missing_of q + e
missing_after from input p q m e is at none edges = omega (
  arith,
  is,
  missing_falls p.point.inputs (given from input) none p.preds,
  ap missing_of at,
  ap {B = ℕ} (λ b. count_by (λ f. not (has_from f (cond b p.point.inputs (p.point.inputs ++ given from input ∷ [])))) p.preds) none,
  edges,
  ap {B = ℕ} (λ (z : SyncPoint). count_by (λ n. nat_eq n from) z.preds) at,
)

-- it had given none where the gathering tells that the input is new
pub had_none : (has new : Bool) → new ≡ not has → new ≡ true → has ≡ false
had_none true new e h = absurd (true≢false (sym h ∙ e))
had_none false new e h = refl

-- no edge counts where the point is full
pub full_by : (q : SyncPoint) (m : ℕ) → m ≡ missing_of q → nat_eq m 0 ≡ is_full q
full_by q m is = ap (λ n. nat_eq n 0) is ∙ none_missing (λ f. has_from f q.point.inputs) q.preds

-- a gathering keeps the point's node, be there memory or not
pub keeps_node : {E : Type 0} (from : ℕ) (input : Input) (x q : SyncPoint) (r : Result Gathered E) → OnOk r (q ≡ with_input from input x) → OnErr r (q ≡ x) → q.point.node ≡ x.point.node
keeps_node from input x q (Ok g) done same = ap point_key done
keeps_node from input x q (Err e) done same = ap point_key same
