-- Short lists, and what is said of the nodes of a graph by their points.
use Rattle.std.proofs.Common.{Some, [], arith, false, subst, sym, true, ℕ, ◌∷◌, ◌≡◌, ◌≢◌}
use Rattle.std.specs.Prelude.{Contains}
use Rattle.std.proofs.lemmas.List.Sorted.{IsPermutation-refl}
use Rattle.dep_graph.specs.Lists.{ListsAll}
use Rattle.dep_graph.specs.Paths.{HasPath}
use Rattle.traversal_graph.specs.Builds.{Joins}
use Rattle.traversal_graph.specs.Nodes.{IsSortedCopy}
use Rattle.traversal_graph.specs.declared.brief.RowBrief.{RowBrief}
use Rattle.sync_points.specs.declared.point.Point.{Point}
use Rattle.step_relation.specs.Inputs.{IsRequired}
use Rattle.history_laws.proofs.edges.Keeping.{only_one}
use Rattle.history_laws.proofs.tables.Puts.{contains_head, contains_none}

-- none of the kind
pub lists_none : (Is : ℕ → Type 0) → ((n : ℕ) → ¬ Is n) → ListsAll Is []
lists_none Is none = record {
  rising = λ i j d lt within. absurd (omega (arith, within));
  each = λ n. (λ c. absurd (contains_none n c), λ is. absurd (none n is));
}

-- one of the kind
pub lists_one : (Is : ℕ → Type 0) (k : ℕ) → Is k → ((n : ℕ) → Is n → n ≡ k) → ListsAll Is (k ∷ [])
lists_one Is k its only = record {
  rising = λ i j d lt within. absurd (omega (arith, lt, within));
  each = λ n. (
    λ c. subst Is (only_one k n c) its,
    λ is. subst (Contains (k ∷ [])) (sym (only n is)) (contains_head k []),
  );
}

-- a point that isn't done
pub not_done : (p q : Point) → p.done ≡ false → Some p ≡ Some q → ¬ (q.done ≡ true)
not_done p q no_ is yes_ = let same : p ≡ q = cc in
    let f : q.done ≡ false = subst (λ (x : Point). x.done ≡ false) same no_ in cc

-- no input was given
pub requires_none : ListsAll (IsRequired []) []
requires_none = lists_none (IsRequired []) (λ n r. contains_none r.input r.among)

-- one brief is sorted as it is
pub one_sorted : (b : RowBrief) → IsSortedCopy (b ∷ []) (b ∷ [])
one_sorted b = record {
  same = IsPermutation-refl (b ∷ []);
  ordered = λ i j d le within.
      let first : i ≡ 0 = omega (arith, le, within) in
      let second : j ≡ 0 = omega (arith, within) in
      rw (first, second) (omega arith);
  rising = λ distinct k within. absurd (omega (arith, within));
}

-- without edges no path leads from one node to another
pub no_path : (a b : ℕ) → a ≢ b → HasPath (Joins []) a b → ⊥
no_path a b ne ([], h) = h
no_path a b ne (x ∷ [], (is, l)) = ne l
no_path a b ne (x ∷ y ∷ rest, (is, (edge, l))) = contains_none (a, y) edge
