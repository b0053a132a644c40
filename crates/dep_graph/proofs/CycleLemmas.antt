-- The walk back from the least node left, and the cycle that it meets.
use Rattle.std.proofs.Common.{◌≡◌, ◌↔◌, ℕ, ◌+◌, ◌<◌, ◌≤◌, Bool, true, false, eqb, List, [], ◌∷◌, ◌++◌, length, get_or, set, replicate, take, drop, ◌⊎◌, inl, inr, sym, ap, ◌∙◌, append_assoc, arith}
use Rattle.std.specs.Prelude.{All, Contains}
use Rattle.std.specs.List.{IsDistinct}
use Rattle.std.proofs.lemmas.Bool.{cases_lt, cases_eq}
use Rattle.std.proofs.lemmas.List.{drop_more, take-append-drop, length_push, get_or-set_same, get_or-set_other, get_or-replicate, length-replicate}
use Rattle.std.proofs.lemmas.List.Elements.{Contains-push, Contains-push_cases, Contains-append_left}
use Rattle.dep_graph.specs.Lists.{IsLeast}
use Rattle.dep_graph.specs.Paths.{IsPath, IsCycle, Against}
use Rattle.dep_graph.specs.Edges.{Links, HasEdge, JoinsNodes}
use Rattle.dep_graph.specs.Marks.{IsMarked, MarksAll}
use Rattle.dep_graph.specs.Orders.{IsLeft, GoesBack, FindsCycle}
use Rattle.dep_graph.proofs.PathLemmas.{IsPath-from, Leads-weaker, closed_against}
use Rattle.dep_graph.proofs.MarkLemmas.{IsMarked-within, unmarked}
use Rattle.dep_graph.proofs.ClosingLemmas.{length-le_distinct}

-- the least predecessor with a mark is the least that is left
pub GoesBack-marked : (graph : Links) (marks : List Bool) (node next : ℕ) → JoinsNodes graph
    → length marks ≡ length graph → MarksAll (IsLeft (HasEdge graph)) marks
    → IsLeast (λ pred. HasEdge graph pred node × IsMarked marks pred) next → GoesBack (HasEdge graph) node next
GoesBack-marked graph marks node next joins same left least = record {
  is = (least.is.0, (left next (IsMarked-within marks next least.is.1)).0 least.is.1);
  least = λ other h. least.least other (h.0, (left other (rw same (joins other node h.0).0)).1 h.1);
}

pub start_left : (graph : Links) (marks : List Bool) (start : ℕ)
    → length marks ≡ length graph → MarksAll (IsLeft (HasEdge graph)) marks → JoinsNodes graph
    → IsLeast (IsMarked marks) start → IsLeast (IsLeft (HasEdge graph)) start
start_left graph marks start same left joins least = record {
  is = (left start inside).0 least.is;
  least = λ other h. by other h (cases_lt other (length marks));
}
  where
    inside : start < length marks
    inside = IsMarked-within marks start least.is

    by : (other : ℕ) → IsLeft (HasEdge graph) other → (other < length marks) ⊎ (length marks ≤ other) → start ≤ other
    by other h (inl lt) = least.least other ((left other lt).1 h)
    by other h (inr le) = omega (arith, inside)

-- a walk without a second time has fewer nodes than the graph, as long as its next isn't on it
pub walk_short : (walk : List ℕ) (at n : ℕ) → IsDistinct eqb (walk ++ at ∷ []) → All (λ x. x < n) (walk ++ at ∷ [])
    → length walk < n
walk_short walk at n once below = omega (arith, length-le_distinct (walk ++ at ∷ []) n once below, length_push walk at)

-- the marks are on the walk's nodes
pub met_none : (n : ℕ) (x : ℕ) → IsMarked (replicate n false) x ↔ Contains [] x
met_none n x = ((λ m. absurd (none m)), (λ c. absurd (omega (arith, c.1))))
  where
    none : IsMarked (replicate n false) x → ⊥
    none m = unmarked (replicate n false) x (get_or-replicate n x false false (rw length-replicate at (IsMarked-within (replicate n false) x m))) m

pub met_more : (met : List Bool) (walk : List ℕ) (at : ℕ) → at < length met
    → ((x : ℕ) → IsMarked met x ↔ Contains walk x) → (x : ℕ) → IsMarked (set met at true) x ↔ Contains (walk ++ at ∷ []) x
met_more met walk at lt h x = elim (cases_eq x at) [
  | inl e ↦ rw e ((λ _. Contains-push walk at), (λ _. get_or-set_same met at true false lt))
  | inr ne ↦ rw (get_or-set_other met at x true false ne) (
    (λ m. Contains-append_left walk (at ∷ []) x ((h x).0 m)),
    (λ c. elim (Contains-push_cases walk at x c) [ inl k ↦ (h x).1 k | inr e ↦ absurd (ne (sym e)) ]),
  )
]

pub FindsCycle-walk : (E : ℕ → ℕ → Type 0) (walk cycle : List ℕ) (start at place : ℕ) → IsLeast (IsLeft E) start
    → IsPath (GoesBack E) start at (walk ++ at ∷ []) → IsDistinct eqb walk → place < length walk
    → get_or walk place 0 ≡ at → cycle ≡ drop place walk → FindsCycle E cycle
FindsCycle-walk E walk cycle start at place least path once lt e is = record {
  closed = closed_against E cycle back;
  back = back;
  walked = record {
    start = start;
    first = at;
    stem = take place walk;
    others = drop (place + 1) walk;
    start_is = least;
    cycle_is = cycle_is;
    walk = rw (is, take-append-drop place walk) path;
    once = rw (is, take-append-drop place walk) once;
  };
}
  where
    others : List ℕ
    others = drop (place + 1) walk

    rest_is : drop place walk ≡ at ∷ others
    rest_is = drop_more walk place 0 lt ∙ ap (λ (x : ℕ). x ∷ others) e

    cycle_is : cycle ≡ at ∷ others
    cycle_is = is ∙ rest_is

    whole : walk ++ at ∷ [] ≡ take place walk ++ at ∷ (others ++ at ∷ [])
    whole = ap (λ (l : List ℕ). l ++ at ∷ []) (sym (take-append-drop place walk) ∙ ap (λ (l : List ℕ). take place walk ++ l) rest_is)
        ∙ append_assoc (take place walk) (at ∷ others) (at ∷ [])

    back : IsCycle (Against E) cycle
    back = rw cycle_is (Leads-weaker (GoesBack E) (Against E) (λ x y h. h.is.0) at (others ++ at ∷ []) at
        (IsPath-from (GoesBack E) start at (take place walk) at (others ++ at ∷ []) (rw whole at path)))
