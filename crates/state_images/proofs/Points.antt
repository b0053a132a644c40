-- Points by their nodes: fresh ones, one that is written, and all of them written one after another.
use Rattle.std.proofs.Common.{◌≡◌, ℕ, zero, suc, ◌+◌, List, [], ◌∷◌, ◌++◌, length, refl, ap, arith}
use Rattle.std.specs.Prelude.{slice_set}
use Rattle.core_state.specs.declared.Node.{Node}
use Rattle.core_state.specs.declared.Point.{Point}
use Rattle.core_state.specs.Graphs.{fresh_points}
use Rattle.state_images.specs.Formed.{AreByNode}

pub fresh_by_node : (stack : List ℕ) (place : ℕ) (nodes : List Node) → AreByNode stack place nodes (fresh_points stack place nodes)
fresh_by_node stack place [] = tt
fresh_by_node stack place (node ∷ nodes) = (refl, refl, fresh_by_node stack (place + 1) nodes)

pub set_by_node : (stack : List ℕ) (place : ℕ) (nodes : List Node) (ps : List Point) (k : ℕ) (p : Point) → p.stack ≡ stack
    → p.node ≡ place + k → AreByNode stack place nodes ps → AreByNode stack place nodes (slice_set ps k p)
set_by_node stack place [] [] k p s e h = h
set_by_node stack place [] (q ∷ ps) k p s e h = absurd h
set_by_node stack place (node ∷ nodes) [] k p s e h = absurd h
set_by_node stack place (node ∷ nodes) (q ∷ ps) zero p s e h = (s, omega (arith, e), h.2)
set_by_node stack place (node ∷ nodes) (q ∷ ps) (suc k) p s e h =
    (h.0, h.1, set_by_node stack (place + 1) nodes ps k p s (omega (arith, e)) h.2)

-- a write at the first place behind a front
pub set_behind : {A : Type 0} (front : List A) (x y : A) (rest : List A) (k : ℕ) → k ≡ length front
    → slice_set (front ++ x ∷ rest) k y ≡ front ++ y ∷ rest
set_behind [] x y rest zero e = refl
set_behind [] x y rest (suc k) e = absurd (omega (arith, e))
set_behind (z ∷ front) x y rest zero e = absurd (omega (arith, e))
set_behind {A = A} (z ∷ front) x y rest (suc k) e = ap (λ (zs : List A). z ∷ zs) (set_behind front x y rest k (omega (arith, e)))
