-- Which nodes are ready once a node before them is done.
use Rattle.std.proofs.Common.{◌≡◌, ◌<◌, ◌+◌, inl, inr, ℕ, List, [], ◌∷◌, ◌++◌, Some, refl, sym, ap, ◌∙◌, subst, arith}
use Rattle.std.proofs.Common.{length, get_or, take}
use Rattle.std.specs.Prelude.{Contains, slice_get}
use Rattle.std.proofs.lemmas.List.{get_or-take, get_or_default, length-take-le, take_more}
use Rattle.std.proofs.lemmas.List.Elements.{Contains-append_left, Contains-get_or, Contains-push, Contains-push_cases}
use Rattle.std.proofs.lemmas.List.Quantifiers.{all_pairs_push}
use Rattle.std.proofs.lemmas.Option.{slice_get_within}
use Rattle.dep_graph.specs.Lists.{IsRising, ListsAll}
use Rattle.traversal_graph.specs.Builds.{Joins}
use Rattle.traversal_graph.specs.declared.shape.TravGraph.{TravGraph}
use Rattle.sync_points.specs.declared.point.Input.{Input}
use Rattle.sync_points.specs.declared.point.Point.{Point}
use Rattle.core_state.specs.Reads.{HasInput, IsReady}
use Rattle.core_state.specs.declared.graph.Graph.{Graph}
use Rattle.step_relation.specs.Inputs.{gathered, passed, point_after, point_at}
use Rattle.step_reads.specs.Readiness.{ComesFrom, HasInputWith, IsReadyWith}
use Rattle.step_reads.proofs.GatherLemmas.{gathered_has, gathered_keeps, gathered_of, point_given}
use Rattle.step_reads.proofs.PointLemmas.{passed_graph, passed_here, passed_was}
use Rattle.step_reads.proofs.Tables.{Contains-tail}

module _ (g : Graph) (i : ℕ) (x : Input) (succs : List ℕ) (k : ℕ) (behind : Contains succs k) where
  edges_same : (a : ℕ) → Joins (passed g i x succs).graph.edges a k → Joins g.graph.edges a k
  edges_same a edge = subst (λ (t : TravGraph). Joins t.edges a k) (passed_graph g i x succs) edge

  -- the inputs that the node has then
  inputs_then : (q : Point) → slice_get g.points k ≡ Some q → (point_after g i x succs k).inputs ≡ gathered x q.inputs
  inputs_then q there =
      ap (λ (p : Point). p.inputs) (point_given g i x succs k behind) ∙ ap (λ (p : Point). gathered x p.inputs) at where
        at : point_at g k ≡ q
        at = rw there refl

  input_then : (a : ℕ) → HasInputWith g k (Some x.from) a → HasInput (passed g i x succs) k a
  input_then a h = by h.comes where
    there : slice_get (passed g i x succs).points k ≡ Some (point_after g i x succs k)
    there = passed_here g i x succs k (Contains-tail i succs k behind) (slice_get_within g.points k h.point h.there)

    has : (y : Input) → Contains (gathered x h.point.inputs) y → y.from ≡ a → HasInput (passed g i x succs) k a
    has y among e = record {
      point = point_after g i x succs k;
      input = y;
      there = there;
      among = subst (λ (l : List Input). Contains l y) (sym (inputs_then h.point h.there)) among;
      from = e;
    }

    by : ComesFrom h.point.inputs (Some x.from) a → HasInput (passed g i x succs) k a
    by (inl (y, among, e)) = has y (gathered_keeps x h.point.inputs y among) e
    by (inr is) = let same : x.from ≡ a = cc in let (y, among, e) = gathered_has x h.point.inputs in
        has y among (e ∙ same)

  input_before : (a : ℕ) → HasInput (passed g i x succs) k a → HasInputWith g k (Some x.from) a
  input_before a h = by (passed_was g i x succs k h.point h.there) where
    by : (q : Point) × (slice_get g.points k ≡ Some q) → HasInputWith g k (Some x.from) a
    by (q, there) = record { point = q; there = there; comes = comes } where
      is : h.point ≡ point_after g i x succs k
      is = let some : Some h.point ≡ Some (point_after g i x succs k) =
          sym h.there ∙ passed_here g i x succs k (Contains-tail i succs k behind)
          (slice_get_within g.points k q there) in cc

      among : Contains (gathered x q.inputs) h.input
      among = subst (λ (l : List Input). Contains l h.input) (ap (λ (p : Point). p.inputs) is ∙ inputs_then q there)
          h.among

      comes : ComesFrom q.inputs (Some x.from) a
      comes = elim (gathered_of x q.inputs h.input among) [
        | inl was ↦ inl (h.input, was, h.from)
        | inr e ↦ inr (ap (λ (n : ℕ). Some n) (ap (λ (y : Input). y.from) e ∙ h.from))
      ]

  pub ready_from : IsReadyWith g k (Some x.from) → IsReady (passed g i x succs) k
  ready_from ready a edge = input_then a (ready a (edges_same a edge))

  pub ready_to : IsReady (passed g i x succs) k → IsReadyWith g k (Some x.from)
  ready_to ready a edge =
      input_before a (ready a (subst (λ (t : TravGraph). Joins t.edges a k) (sym (passed_graph g i x succs)) edge))

-- one number more of a rising list, of the kind or not
module _ (P : ℕ → Type 0) (xs : List ℕ) (up : IsRising xs) (n y : ℕ) (lt : n < length xs) (is : y ≡ get_or xs n y) where
  low : (x : ℕ) → Contains (take n xs) x → x < y
  low x (k, within, e) =
      let size : length (take n xs) ≡ n = length-take-le n xs (omega (arith, lt)) in
      let less : k < n = omega (arith, within, size) in
      let here : get_or xs k x ≡ x = sym (get_or-take n xs k x less) ∙ e in
      let there : get_or xs n x ≡ y = get_or_default xs n x y lt ∙ sym is in
      let rises : get_or xs k x < get_or xs n x = up k n x less lt in
      omega (arith, here, there, rises)

  pub pick_more : (picked : List ℕ) → P y → ListsAll (λ k. Contains (take n xs) k × P k) picked
      → ListsAll (λ k. Contains (take (n + 1) xs) k × P k) (picked ++ y ∷ [])
  pick_more picked of h = rw (take_more xs n y lt, ← is) (record {
    rising = all_pairs_push (λ (a b : ℕ). a < b) picked y h.rising below;
    each = λ k. (there k, back k);
  })
    where
      below : (k d : ℕ) → k < length picked → get_or picked k d < y
      below k d inside = low (get_or picked k d) ((h.each (get_or picked k d)).0 (Contains-get_or picked k d inside)).0

      there : (k : ℕ) → Contains (picked ++ y ∷ []) k → Contains (take n xs ++ y ∷ []) k × P k
      there k c = elim (Contains-push_cases picked y k c) [
        | inl was ↦ (Contains-append_left (take n xs) (y ∷ []) k ((h.each k).0 was).0, ((h.each k).0 was).1)
        | inr e ↦ subst (λ (m : ℕ). Contains (take n xs ++ y ∷ []) m × P m) e (Contains-push (take n xs) y, of)
      ]

      back : (k : ℕ) → Contains (take n xs ++ y ∷ []) k × P k → Contains (picked ++ y ∷ []) k
      back k (c, p) = elim (Contains-push_cases (take n xs) y k c) [
        | inl was ↦ Contains-append_left picked (y ∷ []) k ((h.each k).1 (was, p))
        | inr e ↦ subst (Contains (picked ++ y ∷ [])) e (Contains-push picked y)
      ]

  pub pick_skip : (picked : List ℕ) → ¬ P y → ListsAll (λ k. Contains (take n xs) k × P k) picked
      → ListsAll (λ k. Contains (take (n + 1) xs) k × P k) picked
  pick_skip picked not h =
      rw (take_more xs n y lt, ← is) (record { rising = h.rising; each = λ k. (there k, back k) }) where
        there : (k : ℕ) → Contains picked k → Contains (take n xs ++ y ∷ []) k × P k
        there k c = (Contains-append_left (take n xs) (y ∷ []) k ((h.each k).0 c).0, ((h.each k).0 c).1)

        back : (k : ℕ) → Contains (take n xs ++ y ∷ []) k × P k → Contains picked k
        back k (c, p) = elim (Contains-push_cases (take n xs) y k c) [
          | inl was ↦ (h.each k).1 (was, p)
          | inr e ↦ absurd (not (subst P (sym e) p))
        ]

pub pick_none : (P : ℕ → Type 0) → ListsAll (λ k. Contains [] k × P k) []
pick_none P = record {
  rising = λ a b d less within. absurd (omega (arith, within));
  each = λ k. ((λ (n, lt, e). absurd (omega (arith, lt))), (λ h. h.0));
}
