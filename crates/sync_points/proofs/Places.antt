-- Points at the places of their nodes.
use Rattle.std.proofs.Common.{◌≡◌, ◌≤◌, ◌<◌, ◌+◌, ◌∙◌, ℕ, zero, suc, Bool, true, false, cond, true≢false, List, [], ◌∷◌, ◌++◌, Some, None, IsSome, length, get_or, take, set, option_map, nat_eq, nat_lt, refl, sym, ap, subst, ⊎_elim, arith}
use Rattle.std.specs.List.{position_from}
use Rattle.std.proofs.lemmas.Bool.{eqb-true, eq-eqb}
use Rattle.std.proofs.lemmas.List.{take_more, length-take-le}
use Rattle.std.proofs.lemmas.Option.{slice_get-get_or}
use Rattle.keyed_table.proofs.Numbers.{compared}
use Rattle.keyed_table.proofs.Puts.{put-at}
use Rattle.keyed_table.proofs.Sortings.{number_sorting}
use Rattle.keyed_table.proofs.Tables.{at-place, at-nowhere, key-there}
use Rattle.sync_points.specs.declared.sync_point.SyncPoint.{SyncPoint}
use Rattle.sync_points.specs.Numbers.{AreNumbered, fresh_point, fresh_points}
use Rattle.sync_points.specs.Points.{point_at, point_key, put_point}

-- fresh points are numbered
pub fresh_numbered : (stack : List ℕ) (k : ℕ) (preds : List (List ℕ)) → AreNumbered k (fresh_points stack k preds)
fresh_numbered stack k [] = tt
fresh_numbered stack k (ps ∷ rest) = (refl, fresh_numbered stack (k + 1) rest)

-- one more fresh point
fresh_append : (stack : List ℕ) (k : ℕ) (xs : List (List ℕ)) (x : List ℕ)
    → fresh_points stack k (xs ++ x ∷ []) ≡ fresh_points stack k xs ++ fresh_point stack (k + length xs) x ∷ []
fresh_append stack k [] x = ap (λ (n : ℕ). fresh_point stack n x ∷ []) (omega arith)
fresh_append stack k (y ∷ ys) x = ap (λ (rest : List SyncPoint). fresh_point stack k y ∷ rest)
    (fresh_append stack (k + 1) ys x ∙ ap (λ (n : ℕ). fresh_points stack (k + 1) ys ++ fresh_point stack n x ∷ []) (omega arith))

pub fresh_more : (stack : List ℕ) (preds : List (List ℕ)) (i : ℕ) (x : List ℕ) (points points' : List SyncPoint) (p : SyncPoint)
    → i < length preds → x ≡ get_or preds i x → points ≡ fresh_points stack 0 (take i preds) → points' ≡ points ++ p ∷ [] → p ≡ fresh_point stack i x
    → points' ≡ fresh_points stack 0 (take (i + 1) preds)
fresh_more stack preds i x points points' p l read h e is =
    e ∙ ap (λ (ps : List SyncPoint). ps ++ p ∷ []) h ∙ ap (λ (q : SyncPoint). fresh_points stack 0 (take i preds) ++ q ∷ []) is
    ∙ ap (λ (n : ℕ). fresh_points stack 0 (take i preds) ++ fresh_point stack n x ∷ []) (omega (arith, length-take-le i preds (omega (arith, l))))
    ∙ sym (fresh_append stack 0 (take i preds) x)
    ∙ ap (λ (xs : List (List ℕ)). fresh_points stack 0 xs) (sym (take_more preds i x l ∙ ap (λ y. take i preds ++ y ∷ []) (sym read)))

-- a node's point stands at the node's place
pub position_numbered : (k n : ℕ) (points : List SyncPoint) → AreNumbered k points → k ≤ n → n < k + length points
    → position_from (λ (x : SyncPoint). nat_eq x.point.node n) k points ≡ Some n
position_numbered k n [] h le lt = absurd (omega (arith, le, lt))
position_numbered k n (p ∷ ps) h le lt = by (nat_eq p.point.node n) refl (λ above. position_numbered (k + 1) n ps h.1 above (omega (arith, lt))) where
  above : nat_eq p.point.node n ≡ false → k + 1 ≤ n
  above e = ⊎_elim (λ less. omega (arith, less)) (λ rest. ⊎_elim (λ same. absurd (true≢false (sym (eq-eqb p.point.node n (h.0 ∙ same)) ∙ e))) (λ more. absurd (omega (arith, more, le))) rest) (compared k n)

  by : (b : Bool) → nat_eq p.point.node n ≡ b → (k + 1 ≤ n → position_from (λ (x : SyncPoint). nat_eq x.point.node n) (k + 1) ps ≡ Some n)
      → cond b (Some k) (position_from (λ (x : SyncPoint). nat_eq x.point.node n) (k + 1) ps) ≡ Some n
  by true e rest = ap (λ m. Some m) (sym h.0 ∙ eqb-true p.point.node n e)
  by false e rest = rest (above e)

-- past the last place there is none
pub position_past : (k n : ℕ) (points : List SyncPoint) → AreNumbered k points → k + length points ≤ n
    → position_from (λ (x : SyncPoint). nat_eq x.point.node n) k points ≡ None
position_past k n [] h le = refl
position_past k n (p ∷ ps) h le = by (nat_eq p.point.node n) refl (position_past (k + 1) n ps h.1 (omega (arith, le))) where
  by : (b : Bool) → nat_eq p.point.node n ≡ b → position_from (λ (x : SyncPoint). nat_eq x.point.node n) (k + 1) ps ≡ None
      → cond b (Some k) (position_from (λ (x : SyncPoint). nat_eq x.point.node n) (k + 1) ps) ≡ None
  by true e rest = absurd (omega (arith, le, h.0, eqb-true p.point.node n e))
  by false e rest = rest

-- a point written over one of its node
pub set_numbered : (k i : ℕ) (q : SyncPoint) (points : List SyncPoint) → AreNumbered k points → q.point.node ≡ k + i → AreNumbered k (set points i q)
set_numbered k i q [] h e = tt
set_numbered k zero q (p ∷ ps) h e = (e ∙ omega arith, h.1)
set_numbered k (suc i) q (p ∷ ps) h e = (h.0, set_numbered (k + 1) i q ps h.1 (e ∙ omega arith))

numbered_at : (k i : ℕ) (points : List SyncPoint) (d : SyncPoint) → AreNumbered k points → i < length points → (get_or points i d).point.node ≡ k + i
numbered_at k i [] d h l = absurd (omega (arith, l))
numbered_at k zero (p ∷ ps) d h l = h.0 ∙ omega arith
numbered_at k (suc i) (p ∷ ps) d h l = numbered_at (k + 1) i ps d h.1 (omega (arith, l)) ∙ omega arith

pub written_numbered : (points : List SyncPoint) (i : ℕ) (x q : SyncPoint) → AreNumbered 0 points → i < length points → x ≡ get_or points i x → q.point.node ≡ x.point.node
    → AreNumbered 0 (set points i q)
written_numbered points i x q h l read keeps = set_numbered 0 i q points h (keeps ∙ ap point_key read ∙ numbered_at 0 i points x h l)

module _ (points inside : List SyncPoint) (e : inside ≡ points) (n i : ℕ) (at : position_from (λ (x : SyncPoint). nat_eq x.point.node n) 0 points ≡ Some i)
    (l : i < length points) (x : SyncPoint) (read : x ≡ get_or inside i x) where
  -- the point of a node, by its place
  pub point_read : point_at points n ≡ Some x
  point_read = at-place nat_eq point_key n points i at ∙ slice_get-get_or points i x l ∙ ap (λ y. Some y) (sym (read ∙ ap (λ ps. get_or ps i x) e))

  pub point_same : (p : SyncPoint) → point_at points n ≡ Some p → x ≡ p
  point_same p is = let both : Some x ≡ Some p = sym point_read ∙ is in cc

  -- its node
  pub point_node : x.point.node ≡ n
  point_node =
      let both : Some x.point.node ≡ Some n = ap (option_map point_key) (sym point_read ∙ at-place nat_eq point_key n points i at) ∙ key-there nat_eq nat_lt number_sorting point_key n points i l at in
      cc

  -- and written there
  pub point_written : (of : SyncPoint → SyncPoint) (y : SyncPoint) → y ≡ of x → (of x).point.node ≡ x.point.node → (p : SyncPoint) → point_at points n ≡ Some p
      → set inside i y ≡ put_point (of p) points
  point_written of y is keeps p there =
      ap (λ ps. set ps i y) e ∙ ap (λ z. set points i z) is
      ∙ sym (put-at nat_eq point_key (of x) points i (subst (λ k. position_from (λ (q : SyncPoint). nat_eq q.point.node k) 0 points ≡ Some i) (sym (keeps ∙ point_node)) at))
      ∙ ap (λ z. put_point (of z) points) (point_same p there)

pub none_there : (points : List SyncPoint) (n : ℕ) → position_from (λ (x : SyncPoint). nat_eq x.point.node n) 0 points ≡ None → IsSome (point_at points n) → ⊥
none_there points n at h = true≢false (sym (subst (λ o. IsSome o) (at-nowhere nat_eq point_key n points at) h))
