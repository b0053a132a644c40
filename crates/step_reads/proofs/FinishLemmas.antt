-- All nodes are done then, or one isn't.
use Rattle.std.proofs.Common.{◌≡◌, ◌<◌, ℕ, List, length, get_or, [], ◌∷◌, refl, subst, sym, ap, ◌∙◌, arith}
use Rattle.std.specs.Prelude.{slice_get}
use Rattle.std.proofs.lemmas.Option.{slice_get_within, slice_get-get_or}
use Rattle.traversal_graph.specs.declared.shape.Node.{Node}
use Rattle.traversal_graph.specs.declared.shape.TravGraph.{TravGraph}
use Rattle.sync_points.specs.declared.point.Input.{Input}
use Rattle.core_state.specs.declared.graph.Graph.{Graph}
use Rattle.step_relation.specs.Inputs.{AllDone, passed}
use Rattle.step_reads.specs.Waiting.{IsDoneThen}
use Rattle.step_reads.proofs.PointLemmas.{done_before, done_then, passed_graph}

pub all_done_then : (g : Graph) (i : ℕ) (x : Input) (succs : List ℕ)
    → ((k : ℕ) → k < length g.graph.nodes → IsDoneThen g i k)
    → AllDone (passed g i x succs)
all_done_then g i x succs all k node there = done_then g i x succs k
    (all k (subst (λ (t : TravGraph). k < length t.nodes) (passed_graph g i x succs)
    (slice_get_within (passed g i x succs).graph.nodes k node there)))

pub not_all_done : (g : Graph) (i : ℕ) (x : Input) (succs : List ℕ) (k : ℕ) → k < length g.graph.nodes
    → ¬ IsDoneThen g i k
    → ¬ AllDone (passed g i x succs)
not_all_done g i x succs k lt not all = by g.graph.nodes refl lt where
  by : (nodes : List Node) → nodes ≡ g.graph.nodes → k < length nodes → ⊥
  by [] e lt = absurd (omega (arith, lt))
  by (n ∷ nodes) e lt = not (done_before g i x succs k (all k (get_or (n ∷ nodes) k n)
      (ap (λ (t : TravGraph). slice_get t.nodes k) (passed_graph g i x succs)
      ∙ (ap (λ (ns : List Node). slice_get ns k) (sym e) ∙ slice_get-get_or (n ∷ nodes) k n lt))))
