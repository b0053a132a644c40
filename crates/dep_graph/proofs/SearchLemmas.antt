-- A search against the edges: what is marked reaches a goal, and what reaches one is marked.
use Rattle.std.proofs.Common.{◌≡◌, ◌⊎◌, ℕ, ◌+◌, ◌<◌, Bool, true, false, not, cond, List, [], ◌∷◌, ◌++◌, length, get_or, set, replicate, refl, sym, ap, subst, ◌∙◌, inl, inr, arith}
use Rattle.std.specs.Prelude.{Contains}
use Rattle.std.proofs.lemmas.Bool.{cases_eq, false≢true}
use Rattle.std.proofs.lemmas.List.{get_or-set_same, get_or-set_other, length-set, get_or-replicate, length-replicate, length_push}
use Rattle.std.proofs.lemmas.List.Elements.{Contains-push, Contains-push_cases, Contains-append_left}
use Rattle.std.proofs.lemmas.List.Sums.{sum_by-set}
use Rattle.dep_graph.specs.Paths.{Leads, HasPath, HasPathFrom, Against}
use Rattle.dep_graph.specs.Lists.{ListsAll}
use Rattle.dep_graph.specs.Marks.{IsMarked, MarksAll, MarksNew, unmarked_count}
use Rattle.dep_graph.proofs.PathLemmas.{HasPath-refl, HasPath-step, leads_of, turned}
use Rattle.dep_graph.proofs.MarkLemmas.{IsMarked-within}

none_in : (x : ℕ) → Contains {X = ℕ} [] x → ⊥
none_in x (k, lt, e) = absurd (omega arith)

pub IsMarked-set : (marks : List Bool) (x node : ℕ) → x < length marks → IsMarked (set marks x true) node
    → (node ≡ x) ⊎ IsMarked marks node
IsMarked-set marks x node lt m = elim (cases_eq node x) [
  | inl e ↦ inl e
  | inr ne ↦ inr (rw (← get_or-set_other marks x node true false ne) m)
]

pub IsMarked-set_same : (marks : List Bool) (x : ℕ) → x < length marks → IsMarked (set marks x true) x
IsMarked-set_same marks x lt = get_or-set_same marks x true false lt

pub IsMarked-set_kept : (marks : List Bool) (x node : ℕ) → x < length marks → IsMarked marks node → IsMarked (set marks x true) node
IsMarked-set_kept marks x node lt m = elim (cases_eq node x) [
  | inl e ↦ (let M : ℕ → Type 0 = λ z. IsMarked (set marks x true) z in subst M (sym e) (IsMarked-set_same marks x lt))
  | inr ne ↦ rw (get_or-set_other marks x node true false ne) m
]

unmarked_count-set : (marks : List Bool) (x : ℕ) → x < length marks → get_or marks x false ≡ false
    → unmarked_count (set marks x true) + 1 ≡ unmarked_count marks
unmarked_count-set marks x lt m =
    let e = sum_by-set (λ (b : Bool). cond (not b) 1 0) marks x true false lt in
    let one : ◌≡◌ {A = ℕ} (cond (not (get_or marks x false)) 1 0) 1 = ap (λ (b : Bool). cond (not b) 1 0) m in
    omega (arith, e, one)

-- no node yet
pub MarksNew-none : (marks : List Bool) (waiting : List ℕ) → MarksNew [] marks waiting marks waiting
MarksNew-none marks waiting = record {
  size = refl;
  kept = λ x m. m;
  all = λ x h. absurd (none_in x h);
  only = λ x m. inl m;
  waits = λ x h. h;
  joined = λ x h. inl h;
  work = refl;
}

-- a node that has its mark
pub MarksNew-skip : (nodes : List ℕ) (old : List Bool) (waiting : List ℕ) (new : List Bool) (pending : List ℕ) (x : ℕ)
    → MarksNew nodes old waiting new pending → IsMarked new x
    → MarksNew (nodes ++ x ∷ []) old waiting new pending
MarksNew-skip nodes old waiting new pending x h m = record {
  size = h.size;
  kept = h.kept;
  all = all;
  only = only;
  waits = h.waits;
  joined = joined;
  work = h.work;
}
  where
    all : (y : ℕ) → Contains (nodes ++ x ∷ []) y → IsMarked new y
    all y c = elim (Contains-push_cases nodes x y c) [
      | inl k ↦ h.all y k
      | inr e ↦ (let M : ℕ → Type 0 = λ z. IsMarked new z in subst M e m)
    ]

    only : (y : ℕ) → IsMarked new y → IsMarked old y ⊎ (Contains (nodes ++ x ∷ []) y × Contains pending y)
    only y k = elim (h.only y k) [ inl o ↦ inl o | inr c ↦ inr (Contains-append_left nodes (x ∷ []) y c.0, c.1) ]

    joined : (y : ℕ) → Contains pending y → Contains waiting y ⊎ Contains (nodes ++ x ∷ []) y
    joined y k = elim (h.joined y k) [ inl o ↦ inl o | inr c ↦ inr (Contains-append_left nodes (x ∷ []) y c) ]

-- a node that gets its mark now
pub MarksNew-push : (nodes : List ℕ) (old : List Bool) (waiting : List ℕ) (new : List Bool) (pending : List ℕ) (x : ℕ)
    → MarksNew nodes old waiting new pending → x < length new → get_or new x false ≡ false
    → MarksNew (nodes ++ x ∷ []) old waiting (set new x true) (pending ++ x ∷ [])
MarksNew-push nodes old waiting new pending x h lt m = record {
  size = length-set new x true ∙ h.size;
  kept = λ y k. IsMarked-set_kept new x y lt (h.kept y k);
  all = all;
  only = only;
  waits = λ y k. Contains-append_left pending (x ∷ []) y (h.waits y k);
  joined = joined;
  work = omega (arith, h.work, unmarked_count-set new x lt m, length_push pending x);
}
  where
    all : (y : ℕ) → Contains (nodes ++ x ∷ []) y → IsMarked (set new x true) y
    all y c = elim (Contains-push_cases nodes x y c) [
      | inl k ↦ IsMarked-set_kept new x y lt (h.all y k)
      | inr e ↦ (let M : ℕ → Type 0 = λ z. IsMarked (set new x true) z in subst M e (IsMarked-set_same new x lt))
    ]

    here : (l : List ℕ) (y : ℕ) → y ≡ x → Contains (l ++ x ∷ []) y
    here l y e = let C : ℕ → Type 0 = λ z. Contains (l ++ x ∷ []) z in subst C (sym e) (Contains-push l x)

    only : (y : ℕ) → IsMarked (set new x true) y → IsMarked old y ⊎ (Contains (nodes ++ x ∷ []) y × Contains (pending ++ x ∷ []) y)
    only y k = elim (IsMarked-set new x y lt k) [
      | inl e ↦ inr (here nodes y e, here pending y e)
      | inr was ↦ elim (h.only y was) [
        | inl o ↦ inl o
        | inr c ↦ inr (Contains-append_left nodes (x ∷ []) y c.0, Contains-append_left pending (x ∷ []) y c.1)
      ]
    ]

    joined : (y : ℕ) → Contains (pending ++ x ∷ []) y → Contains waiting y ⊎ Contains (nodes ++ x ∷ []) y
    joined y k = elim (Contains-push_cases pending x y k) [
      | inl c ↦ elim (h.joined y c) [ inl o ↦ inl o | inr d ↦ inr (Contains-append_left nodes (x ∷ []) y d) ]
      | inr e ↦ inr (here nodes y (sym e))
    ]

-- marks that reach one of the goals; where one is on a node that doesn't wait, its predecessors have theirs
pub record IsSearch (Edge : ℕ → ℕ → Type 0) (count : ℕ) (goals : List ℕ) (marks : List Bool) (pending : List ℕ) : Type 0 where
  pub size : length marks ≡ count
  pub goals_are : (x : ℕ) → Contains goals x → IsMarked marks x
  pub reaches : (x : ℕ) → IsMarked marks x → (goal : ℕ) × Contains goals goal × HasPath Edge x goal
  pub waits : (x : ℕ) → Contains pending x → IsMarked marks x
  pub done : (x y : ℕ) → IsMarked marks y → Edge x y → IsMarked marks x ⊎ Contains pending y

pub IsSearch-start : (Edge : ℕ → ℕ → Type 0) (count : ℕ) (goals : List ℕ) (marks : List Bool) (pending : List ℕ)
    → MarksNew goals (replicate count false) [] marks pending → IsSearch Edge count goals marks pending
IsSearch-start Edge count goals marks pending h = record {
  size = h.size ∙ length-replicate count false;
  goals_are = h.all;
  reaches = λ x m. (x, (new x m).0, HasPath-refl Edge x);
  waits = waits;
  done = λ x y m e. inr (new y m).1;
}
  where
    bare_none : (x : ℕ) → IsMarked (replicate count false) x → ⊥
    bare_none x m =
        let in' : x < count = rw (length-replicate count false) at (IsMarked-within (replicate count false) x m) in
        false≢true (sym (get_or-replicate count x false false in') ∙ m)

    new : (x : ℕ) → IsMarked marks x → Contains goals x × Contains pending x
    new x m = elim (h.only x m) [ inl k ↦ absurd (bare_none x k) | inr c ↦ c ]

    waits : (x : ℕ) → Contains pending x → IsMarked marks x
    waits x c = elim (h.joined x c) [ inl k ↦ absurd (none_in x k) | inr k ↦ h.all x k ]

-- one node's predecessors have their marks
pub IsSearch-more : (Edge : ℕ → ℕ → Type 0) (count : ℕ) (goals : List ℕ) (marks new : List Bool) (pending rest next nodes : List ℕ) (node : ℕ)
    → IsSearch Edge count goals marks pending → pending ≡ rest ++ node ∷ []
    → ListsAll (λ pred. Edge pred node) nodes → MarksNew nodes marks rest new next
    → IsSearch Edge count goals new next
IsSearch-more Edge count goals marks new pending rest next nodes node s is lists h = record {
  size = h.size ∙ s.size;
  goals_are = λ x c. h.kept x (s.goals_are x c);
  reaches = reaches;
  waits = waits;
  done = done;
}
  where
    waiting : (x : ℕ) → Contains rest x → Contains pending x
    waiting x c = rw is (Contains-append_left rest (node ∷ []) x c)

    last : Contains pending node
    last = rw is (Contains-push rest node)

    reaches : (x : ℕ) → IsMarked new x → (goal : ℕ) × Contains goals goal × HasPath Edge x goal
    reaches x m = elim (h.only x m) [
      | inl o ↦ s.reaches x o
      | inr c ↦ (let r = s.reaches node (s.waits node last) in
          (r.0, r.1, HasPath-step Edge x node r.0 ((lists.each x).0 c.0) r.2))
    ]

    waits : (x : ℕ) → Contains next x → IsMarked new x
    waits x c = elim (h.joined x c) [
      | inl o ↦ h.kept x (s.waits x (waiting x o))
      | inr d ↦ h.all x d
    ]

    done : (x y : ℕ) → IsMarked new y → Edge x y → IsMarked new x ⊎ Contains next y
    done x y m e = elim (h.only y m) [
      | inl o ↦ old (s.done x y o e)
      | inr c ↦ inr c.1
    ]
      where
        old : IsMarked marks x ⊎ Contains pending y → IsMarked new x ⊎ Contains next y
        old (inl k) = inl (h.kept x k)
        old (inr k) = elim (Contains-push_cases rest node y (rw is at k)) [
          | inl c ↦ inr (h.waits y c)
          | inr same ↦ inl (h.all x ((lists.each x).1 (let F : ℕ → Type 0 = λ z. Edge x z in subst F (sym same) e)))
        ]

-- where none waits, what reaches a goal is marked
marked : (Edge : ℕ → ℕ → Type 0) (count : ℕ) (goals : List ℕ) (marks : List Bool) → IsSearch Edge count goals marks []
    → (x goal : ℕ) → Contains goals goal → HasPath Edge x goal → IsMarked marks x
marked Edge count goals marks s x goal c h = let p = leads_of Edge x goal h in back x p.0 p.1
  where
    back : (x : ℕ) (p : List ℕ) → Leads Edge x p goal → IsMarked marks x
    back x [] e = let M : ℕ → Type 0 = λ z. IsMarked marks z in subst M (sym e) (s.goals_are goal c)
    back x (y ∷ p) (e, r) = elim (s.done x y (back y p r) e) [ inl m ↦ m | inr k ↦ absurd (none_in y k) ]

in_one : (node x : ℕ) → Contains (node ∷ []) x → x ≡ node
in_one node x c = elim (Contains-push_cases [] node x c) [ inl k ↦ absurd (none_in x k) | inr e ↦ sym e ]

-- exactly what reaches the one goal is marked
pub MarksAll-search : (Edge : ℕ → ℕ → Type 0) (count goal : ℕ) (marks : List Bool) → IsSearch Edge count (goal ∷ []) marks []
    → MarksAll (λ node. HasPath Edge node goal) marks
MarksAll-search Edge count goal marks s x lt = (
  (λ m. let r = s.reaches x m in
      let P : ℕ → Type 0 = λ z. HasPath Edge x z in subst P (in_one goal r.0 r.1) r.2),
  marked Edge count (goal ∷ []) marks s x goal (Contains-push [] goal),
)

-- the same along the edges, from several nodes
pub MarksAll-along : (Edge : ℕ → ℕ → Type 0) (count : ℕ) (nodes : List ℕ) (marks : List Bool)
    → IsSearch (Against Edge) count nodes marks [] → MarksAll (HasPathFrom Edge nodes) marks
MarksAll-along Edge count nodes marks s x lt = (
  (λ m. let r = s.reaches x m in (r.0, r.1, turned Edge x r.0 r.2)),
  (λ h. marked (Against Edge) count nodes marks s x h.0 h.1 (turned (Against Edge) h.0 x h.2)),
)

-- what is reached from the one node is what is reached from those of a list with it alone
pub MarksAll-one : (Edge : ℕ → ℕ → Type 0) (from : ℕ) (marks : List Bool) → MarksAll (HasPathFrom Edge (from ∷ [])) marks
    → MarksAll (λ node. HasPath Edge from node) marks
MarksAll-one Edge from marks all x lt = (
  (λ m. let r = (all x lt).0 m in
      let P : ℕ → Type 0 = λ z. HasPath Edge z x in subst P (in_one from r.0 r.1) r.2),
  (λ h. (all x lt).1 (from, Contains-push [] from, h)),
)
