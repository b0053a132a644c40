-- A graph is one by its items, the rows chosen for them and the rows that stand: each candidate is kept or not.
use Rattle.std.proofs.Common.{◌≡◌, inl, inr, ℕ, List, [], ◌∷◌, ◌++◌, map, refl, sym, ap, subst, ◌∙◌, arith}
use Rattle.std.specs.Prelude.{Contains, nat_eq}
use Rattle.std.specs.List.{IsDistinct}
use Rattle.std.specs.List.Sorted.{IsStrictlyIncreasing}
use Rattle.std.proofs.lemmas.Bool.Decides.{Decides-eqb}
use Rattle.std.proofs.lemmas.List.Kept.{AllPairs-from_increasing}
use Rattle.std.proofs.lemmas.List.Sorted.{Contains-permutation, IsPermutation-sym}
use Rattle.std.proofs.lemmas.Map.Made.{IsDistinct-from_AllPairs}
use Rattle.heat_plan.specs.declared.item.Item.{Item}
use Rattle.dep_graph.specs.Lists.{IsRising}
use Rattle.traversal_graph.specs.declared.brief.RowBrief.{RowBrief}
use Rattle.traversal_graph.specs.declared.shape.Node.{Node}
use Rattle.traversal_graph.specs.declared.shape.TravGraph.{TravGraph}
use Rattle.traversal_graph.specs.Builds.{Considers, Keeps, begins, goes_on}
use Rattle.traversal_graph.specs.Candidates.{candidates}
use Rattle.traversal_graph.specs.Nodes.{IsBuilt, IsSortedCopy, cleanup_nodes, numbers_of, update_nodes}
use Rattle.row_table.specs.Rows.{row_key}
use Rattle.row_table.specs.declared.row.Row.{Row}
use Rattle.history_laws.specs.Commands.{brief_of}
use Rattle.next_laws.proofs.Listings.{rising_one}

-- two lists with one more are equal in both parts
snoc_same : {A : Type 0} (xs ys : List A) (x y : A) → xs ++ x ∷ [] ≡ ys ++ y ∷ [] → (xs ≡ ys) × (x ≡ y)
snoc_same [] [] x y e = (refl, cc)
snoc_same [] (b ∷ []) x y e = cc
snoc_same [] (b ∷ c ∷ ys) x y e = cc
snoc_same (a ∷ []) [] x y e = cc
snoc_same (a ∷ b ∷ xs) [] x y e = cc
snoc_same (a ∷ xs) (b ∷ ys) x y e =
    let head : a ≡ b = cc in
    let tail : xs ++ x ∷ [] ≡ ys ++ y ∷ [] = cc in
    let rest : (xs ≡ ys) × (x ≡ y) = snoc_same xs ys x y tail in
    let same : xs ≡ ys = rest.0 in
    (cc, rest.1)

none_more : {A : Type 0} (xs : List A) (x : A) → [] ≡ xs ++ x ∷ [] → ⊥
none_more [] x e = cc
none_more (y ∷ xs) x e = cc

considers_one : (kept : List (ℕ × ℕ)) (before after : ℕ) (a b : List (ℕ × ℕ)) → Considers kept before after a
    → Considers kept before after b → a ≡ b
considers_one kept before after a b (inl h) (inl i) = h.1 ∙ sym i.1
considers_one kept before after a b (inl h) (inr i) = absurd (i.0 h.0)
considers_one kept before after a b (inr h) (inl i) = absurd (h.0 i.0)
considers_one kept before after a b (inr h) (inr i) = h.1 ∙ sym i.1

keeps_one : (first cs a b : List (ℕ × ℕ)) → Keeps first cs a → Keeps first cs b → a ≡ b
keeps_one first cs a b (begins cs1 a1 none is) (begins cs2 b2 none_ is_) = is ∙ sym is_
keeps_one first cs a b (begins cs1 a1 none is) (goes_on earlier mid cs2 b2 before after h step e) =
    absurd (none_more earlier (before, after) (sym none ∙ e))
keeps_one first cs a b (goes_on earlier mid cs1 a1 before after h step e) (begins cs2 b2 none is) =
    absurd (none_more earlier (before, after) (sym none ∙ e))
keeps_one first cs a b (goes_on earlier mid cs1 a1 before after h step e)
    (goes_on earlier_ mid_ cs2 b2 before_ after_ h_ step_ e_) =
    let same : (earlier ≡ earlier_) × ((before, after) ≡ (before_, after_)) =
    snoc_same earlier earlier_ (before, after) (before_, after_) (sym e ∙ e_) in
    let mids : mid ≡ mid_ = keeps_one first earlier mid mid_ h
    (subst (λ (l : List (ℕ × ℕ)). Keeps first l mid_) (sym same.0) h_) in
    let befores : before ≡ before_ = ap (λ (p : ℕ × ℕ). p.0) same.1 in
    let afters : after ≡ after_ = ap (λ (p : ℕ × ℕ). p.1) same.1 in
    considers_one mid before after a b step (rw (mids, befores, afters) step_)

-- the rows put in order are one, where no two have a number
pub numbers_same : (standing : List Row) → numbers_of (map brief_of standing) ≡ map row_key standing
numbers_same [] = refl
numbers_same (r ∷ standing) = ap (λ (l : List ℕ). r.no ∷ l) (numbers_same standing)

distinct : (standing : List Row) → IsRising (map row_key standing)
    → IsDistinct nat_eq (numbers_of (map brief_of standing))
distinct standing up = subst (IsDistinct nat_eq) (sym (numbers_same standing))
    (IsDistinct-from_AllPairs Decides-eqb (map row_key standing)
    (λ i j d lt within same. let less = up i j d lt within in absurd (omega (arith, less, same))))

sorted_one : (rows a b : List RowBrief) → IsDistinct nat_eq (numbers_of rows) → IsSortedCopy rows a
    → IsSortedCopy rows b → a ≡ b
sorted_one rows a b apart h i = rising_one (λ (r : RowBrief). r.no) a b (up a (h.rising apart)) (up b (i.rising apart))
    (there a b h i) (there b a i h)
  where
    up : (l : List RowBrief) → IsStrictlyIncreasing (numbers_of l) → IsRising (numbers_of l)
    up l rises = λ i j d lt within. AllPairs-from_increasing (numbers_of l) rises i j d lt within

    there : (l m : List RowBrief) → IsSortedCopy rows l → IsSortedCopy rows m → (x : RowBrief) → Contains l x
        → Contains m x
    there l m p q x c = Contains-permutation rows m x q.same
        (Contains-permutation l rows x (IsPermutation-sym rows l p.same) c)

pub graph_one : (items : List Item) (chosen : List ℕ) (standing : List Row) → IsRising (map row_key standing)
    → (g h : TravGraph)
    → IsBuilt items chosen (map brief_of standing) g → IsBuilt items chosen (map brief_of standing) h → g ≡ h
graph_one items chosen standing rises g h b c = same_parts
  where
    sorts : b.sorted ≡ c.sorted
    sorts = sorted_one (map brief_of standing) b.sorted c.sorted (distinct standing rises) b.rows_are c.rows_are

    nodes : g.nodes ≡ h.nodes
    nodes = b.nodes ∙ (ap (λ (l : List RowBrief). update_nodes items chosen ++ cleanup_nodes l) sorts ∙ sym c.nodes)

    edges : g.edges ≡ h.edges
    edges = keeps_one [] (candidates items b.sorted) g.edges h.edges b.edges
        (subst (λ (l : List RowBrief). Keeps [] (candidates items l) h.edges) (sym sorts) c.edges)

    same_parts : g ≡ h
    same_parts = ap (λ (ns : List Node). record { nodes = ns; edges = g.edges }) nodes
        ∙ ap (λ (es : List (ℕ × ℕ)). record { nodes = h.nodes; edges = es }) edges
