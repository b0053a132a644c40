-- Nodes taken away one by one, the least that is ready first, and what is left.
use Rattle.std.proofs.Common.{◌≡◌, ◌⊎◌, ℕ, ◌<◌, Bool, false, eqb, List, [], ◌∷◌, ◌++◌, length, get_or, refl, sym, ap, subst, ◌∙◌, inl, inr, append_assoc, arith}
use Rattle.std.specs.Prelude.{Contains, All}
use Rattle.std.specs.Cmp.{nat_eq_equiv}
use Rattle.std.specs.List.{IsDistinct}
use Rattle.std.proofs.lemmas.Bool.{eqb-true, false_from_ne_true, cases_Bool}
use Rattle.std.proofs.lemmas.List.{append-nil, same_from_push}
use Rattle.std.proofs.lemmas.List.Elements.{All-nil, All-push, All-contains, Contains-push_cases}
use Rattle.std.proofs.lemmas.Map.Views.{Contains-from_any}
use Rattle.std.proofs.lemmas.Map.Keys.{IsDistinct-push}
use Rattle.dep_graph.specs.Lists.{IsLeast}
use Rattle.dep_graph.specs.Edges.{Links, HasEdge, JoinsNodes}
use Rattle.dep_graph.specs.Marks.{IsMarked, MarksAll, Leaves, IsUnheld, IsStuck}
use Rattle.dep_graph.specs.Orders.{IsReady, TakesLeast, IsTaken, IsLeft, Orders}
use Rattle.dep_graph.specs.Orders.IsTaken.{takes}
use Rattle.dep_graph.proofs.PathLemmas.{Loops, Loops-pred, acyclic_from}
use Rattle.dep_graph.proofs.MarkLemmas.{IsMarked-within, unmarked}

-- a list is empty or has a last node
last_of : (l : List ℕ) → (l ≡ []) ⊎ ((front : List ℕ) × (z : ℕ) × (l ≡ front ++ z ∷ []))
last_of [] = inl refl
last_of (x ∷ l) = elim (last_of l) [
  | inl e ↦ inr ([], x, ap (λ (m : List ℕ). x ∷ m) e)
  | inr h ↦ inr (x ∷ h.0, h.1, ap (λ (m : List ℕ). x ∷ m) h.2)
]

no_part : (front : List ℕ) (x : ℕ) (back : List ℕ) → [] ≡ front ++ x ∷ back → ⊥
no_part [] x back e = cc
no_part (y ∷ front) x back e = cc

pub TakesLeast-none : (E : ℕ → ℕ → Type 0) (n : ℕ) → TakesLeast E n []
TakesLeast-none E n front x back e = absurd (no_part front x back e)

pub TakesLeast-push : (E : ℕ → ℕ → Type 0) (n : ℕ) (l : List ℕ) (x : ℕ)
    → TakesLeast E n l → IsLeast (IsReady E n l) x → TakesLeast E n (l ++ x ∷ [])
TakesLeast-push E n l x old least front y back e = elim (last_of back) [
  | inl none ↦ at_end (same_from_push l front x y (e ∙ ap (λ (b : List ℕ). front ++ y ∷ b) none))
  | inr h ↦ before h.0 (same_from_push l (front ++ y ∷ h.0) x h.1 (e ∙ ap (λ (b : List ℕ). front ++ y ∷ b) h.2 ∙ sym (append_assoc front (y ∷ h.0) (h.1 ∷ [])))).0
]
  where
    at_end : (l ≡ front) × (x ≡ y) → IsLeast (IsReady E n front) y
    at_end (a, b) = rw (← a, ← b) least

    before : (mid : List ℕ) → l ≡ front ++ y ∷ mid → IsLeast (IsReady E n front) y
    before mid a = old front y mid a

-- what holds of no node and stays with each node taken holds of all
pub takes_all : (E : ℕ → ℕ → Type 0) (n : ℕ) (order : List ℕ) (P : List ℕ → Type 0) → TakesLeast E n order → P []
    → ((front : List ℕ) (x : ℕ) → IsReady E n front x → P front → P (front ++ x ∷ [])) → P order
takes_all E n order P taken none step = go [] order refl none
  where
    go : (front back : List ℕ) → order ≡ front ++ back → P front → P order
    go front [] e h = rw (e, append-nil front) h
    go front (x ∷ back) e h =
        go (front ++ x ∷ []) back (e ∙ sym (append_assoc front (x ∷ []) back)) (step front x (taken front x back e).is h)

pub all_below : (E : ℕ → ℕ → Type 0) (n : ℕ) (order : List ℕ) → TakesLeast E n order → All (λ x. x < n) order
all_below E n order taken =
    takes_all E n order (λ l. All (λ x. x < n) l) taken (All-nil (λ x. x < n))
    (λ front x ready h. All-push (λ x. x < n) front x h ready.within)

pub IsDistinct-none : IsDistinct eqb []
unfolding IsDistinct
IsDistinct-none = tt

pub IsDistinct-fresh : (l : List ℕ) (x : ℕ) → IsDistinct eqb l → (Contains l x → ⊥) → IsDistinct eqb (l ++ x ∷ [])
IsDistinct-fresh l x once fresh =
    IsDistinct-push nat_eq_equiv l x once (false_from_ne_true _ (λ h. fresh (Contains-from_any eqb-true x l h)))

pub once_each : (E : ℕ → ℕ → Type 0) (n : ℕ) (order : List ℕ) → TakesLeast E n order → IsDistinct eqb order
once_each E n order taken =
    takes_all E n order (λ l. IsDistinct eqb l) taken IsDistinct-none
    (λ front x ready h. IsDistinct-fresh front x h ready.fresh)

-- no node that was taken lies on a cycle
none_loops : (E : ℕ → ℕ → Type 0) (n : ℕ) (order : List ℕ) → TakesLeast E n order
    → (x : ℕ) → Contains order x → Loops E x → ⊥
none_loops E n order taken = takes_all E n order P taken start step
  where
    P : List ℕ → Type 0
    P l = (x : ℕ) → Contains l x → Loops E x → ⊥

    start : (x : ℕ) → Contains [] x → Loops E x → ⊥
    start x (k, lt, e) loop = absurd (omega arith)

    at : (front : List ℕ) (x : ℕ) → IsReady E n front x → ((y : ℕ) → Contains front y → Loops E y → ⊥) → Loops E x → ⊥
    at front x ready h loop = let l = Loops-pred E x loop in h l.0 (ready.ready l.0 l.1) l.2

    step : (front : List ℕ) (x : ℕ) → IsReady E n front x → ((y : ℕ) → Contains front y → Loops E y → ⊥)
        → (y : ℕ) → Contains (front ++ x ∷ []) y → Loops E y → ⊥
    step front x ready h y c loop = elim (Contains-push_cases front x y c) [
      | inl k ↦ h y k loop
      | inr e ↦ (let L : ℕ → Type 0 = λ z. Loops E z in at front x ready h (subst L (sym e) loop))
    ]

-- each node of the list can be taken away
all_taken : (E : ℕ → ℕ → Type 0) (n : ℕ) (order : List ℕ) → TakesLeast E n order
    → (x : ℕ) → Contains order x → IsTaken E x
all_taken E n order taken = takes_all E n order P taken start step
  where
    P : List ℕ → Type 0
    P l = (x : ℕ) → Contains l x → IsTaken E x

    start : (x : ℕ) → Contains [] x → IsTaken E x
    start x (k, lt, e) = absurd (omega arith)

    step : (front : List ℕ) (x : ℕ) → IsReady E n front x → ((y : ℕ) → Contains front y → IsTaken E y)
        → (y : ℕ) → Contains (front ++ x ∷ []) y → IsTaken E y
    step front x ready h y c = elim (Contains-push_cases front x y c) [
      | inl k ↦ h y k
      | inr e ↦ (let T : ℕ → Type 0 = λ z. IsTaken E z in subst T e (takes x (λ pred edge. h pred (ready.ready pred edge))))
    ]

-- where each marked node is held by another, what can be taken away is listed
taken_listed : (graph : Links) (listed : List ℕ) (marks : List Bool) → JoinsNodes graph
    → length marks ≡ length graph → Leaves listed marks → IsStuck (HasEdge graph) marks
    → (x : ℕ) → IsTaken (HasEdge graph) x → x < length graph → Contains listed x
taken_listed graph listed marks joins same leaves stuck x (takes y h) lt = elim (cases_Bool (get_or marks y false)) [
  | inl m ↦ held (λ pred edge. taken_listed graph listed marks joins same leaves stuck pred (h pred edge) (joins pred y edge).0) (stuck y m)
  | inr m ↦ leaves.rest y (rw same lt) (unmarked marks y m)
]
  where
    held : ((pred : ℕ) → HasEdge graph pred y → Contains listed pred)
        → (pred : ℕ) × HasEdge graph pred y × IsMarked marks pred → Contains listed y
    held earlier (pred, edge, m) = absurd (leaves.marked pred m (earlier pred edge))

-- the marks are on exactly what can't be taken away
pub MarksAll-left : (graph : Links) (listed : List ℕ) (marks : List Bool) → JoinsNodes graph
    → length marks ≡ length graph → TakesLeast (HasEdge graph) (length graph) listed
    → Leaves listed marks → IsStuck (HasEdge graph) marks → MarksAll (IsLeft (HasEdge graph)) marks
MarksAll-left graph listed marks joins same least leaves stuck x lt = (there, back)
  where
    there : IsMarked marks x → IsTaken (HasEdge graph) x → ⊥
    there m taken = leaves.marked x m (taken_listed graph listed marks joins same leaves stuck x taken (rw (← same) lt))

    back : (IsTaken (HasEdge graph) x → ⊥) → IsMarked marks x
    back left = elim (cases_Bool (get_or marks x false)) [
      | inl m ↦ m
      | inr m ↦ absurd (left (all_taken (HasEdge graph) (length graph) listed least x (leaves.rest x lt (unmarked marks x m))))
    ]

-- the least that no marked node holds is the least that is ready
pub ready_from_unheld : (graph : Links) (listed : List ℕ) (marks : List Bool) (x : ℕ) → JoinsNodes graph
    → length marks ≡ length graph → Leaves listed marks → IsLeast (IsUnheld (HasEdge graph) marks) x
    → IsLeast (IsReady (HasEdge graph) (length graph) listed) x
ready_from_unheld graph listed marks x joins same leaves unheld = record {
  is = record {
    within = rw (← same) (IsMarked-within marks x unheld.is.marked);
    fresh = leaves.marked x unheld.is.marked;
    ready = λ pred edge. leaves.rest pred (rw same (joins pred x edge).0) (unheld.is.unheld pred edge);
  };
  least = λ other ready. unheld.least other (record {
    marked = mark other ready;
    unheld = λ pred edge m. leaves.marked pred m (ready.ready pred edge);
  });
}
  where
    mark : (other : ℕ) → IsReady (HasEdge graph) (length graph) listed other → IsMarked marks other
    mark other ready = elim (cases_Bool (get_or marks other false)) [
      | inl m ↦ m
      | inr m ↦ absurd (ready.fresh (leaves.rest other (rw same ready.within) (unmarked marks other m)))
    ]

-- where no mark is left, the list is the order
pub Orders-all : (graph : Links) (listed : List ℕ) (marks : List Bool) → JoinsNodes graph
    → length marks ≡ length graph → TakesLeast (HasEdge graph) (length graph) listed → Leaves listed marks
    → ((x : ℕ) → IsMarked marks x → ⊥) → Orders (HasEdge graph) (length graph) listed
Orders-all graph listed marks joins same least leaves none = record {
  acyclic = acyclic_from E (λ a loop. none_loops E n listed least a (has a (joins a loop.0 loop.1).0) loop);
  listed = record {
    all = λ x. ((λ h. All-contains (λ y. y < n) listed x (all_below E n listed least) h), has x);
    once = once_each E n listed least;
    forward = λ front x back e. (least front x back e).is.ready;
    least = least;
  };
}
  where
    E : ℕ → ℕ → Type 0
    E = HasEdge graph

    n : ℕ
    n = length graph

    has : (x : ℕ) → x < length graph → Contains listed x
    has x lt = leaves.rest x (rw same lt) (none x)
