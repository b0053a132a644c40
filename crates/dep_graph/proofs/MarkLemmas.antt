-- What marks tell: the first of a list that has one, and which nodes are listed already.
use Rattle.std.proofs.Common.{◌≡◌, ℕ, ◌<◌, ◌≤◌, Bool, true, false, not, cond, List, [], ◌∷◌, ◌++◌, length, get_or, set, replicate, sym, ap, subst, ◌∙◌, inl, inr, arith}
use Rattle.std.specs.Prelude.{Contains, All, Option, Some, None, MatchOption, is_some, count_by}
use Rattle.std.proofs.lemmas.Bool.{cases_order, cases_lt, cases_eq, false≢true}
use Rattle.std.proofs.lemmas.List.{get_or_default, get_or_past, get_or-set_same, get_or-set_other, length-set, get_or-replicate, length-replicate}
use Rattle.std.proofs.lemmas.List.Elements.{Contains-get_or, Contains-push, Contains-push_cases, Contains-append_left}
use Rattle.std.proofs.lemmas.List.Sums.{sum_by-set}
use Rattle.dep_graph.specs.Lists.{IsRising, IsLeast, ListsAll}
use Rattle.dep_graph.specs.Marks.{IsMarked, Leaves}

pub first_is_least : (nodes : List ℕ) (marks : List Bool) (i : ℕ) → IsRising nodes → i < length nodes
    → IsMarked marks (get_or nodes i 0)
    → ((k : ℕ) → k < i → IsMarked marks (get_or nodes k 0) → ⊥)
    → IsLeast (λ node. Contains nodes node × IsMarked marks node) (get_or nodes i 0)
first_is_least nodes marks i up lt mark earlier = record {
  is = (Contains-get_or nodes i 0 lt, mark);
  least = λ other h. le other h.0.0 h.0.1 h.0.2 h.1;
}
  where
    le : (other k : ℕ) → k < length nodes → get_or nodes k other ≡ other → IsMarked marks other → get_or nodes i 0 ≤ other
    le other k inside e m =
        let at : get_or nodes k 0 ≡ other = get_or_default nodes k 0 other inside ∙ e in
        elim (cases_order k i) [
          | inl same ↦ (let G : ℕ → Type 0 = λ j. get_or nodes j 0 ≤ other in subst G same (omega arith))
          | inr o ↦ elim o [
            | inl below ↦ absurd (earlier k below (rw at m))
            | inr above ↦ (let lower : get_or nodes i 0 < get_or nodes k 0 = up i k 0 above inside in omega arith)
          ]
        ]

pub none_marked : (nodes : List ℕ) (marks : List Bool)
    → ((k : ℕ) → k < length nodes → IsMarked marks (get_or nodes k 0) → ⊥)
    → (node : ℕ) → Contains nodes node → IsMarked marks node → ⊥
none_marked nodes marks none node (k, inside, e) m = none k inside (rw (get_or_default nodes k 0 node inside, e) m)

-- no mark stands past the end
pub IsMarked-within : (marks : List Bool) (node : ℕ) → IsMarked marks node → node < length marks
IsMarked-within marks node m = elim (cases_lt node (length marks)) [
  | inl lt ↦ lt
  | inr le ↦ absurd (false≢true (sym (get_or_past marks node false le) ∙ m))
]

pub unmarked : (marks : List Bool) (node : ℕ) → get_or marks node false ≡ false → IsMarked marks node → ⊥
unmarked marks node e m = false≢true (sym e ∙ m)

pub IsMarked-clear : (marks : List Bool) (x node : ℕ) → IsMarked (set marks x false) node
    → (node ≡ x → ⊥) × IsMarked marks node
IsMarked-clear marks x node m = elim (cases_eq node x) [
  | inl e ↦ absurd (same e)
  | inr ne ↦ (ne, rw (← get_or-set_other marks x node false false ne) m)
]
  where
    same : node ≡ x → ⊥
    same e = elim (cases_lt x (length marks)) [
      | inl lt ↦ false≢true (sym (ap (λ (i : ℕ). get_or (set marks x false) i false) e ∙ get_or-set_same marks x false false lt) ∙ m)
      | inr le ↦ (let inside : node < length (set marks x false) = IsMarked-within (set marks x false) node m in absurd (omega (arith, length-set marks x false)))
    ]

-- the marks that are there fall by one
pub count_by-clear : (marks : List Bool) (x : ℕ) → IsMarked marks x
    → count_by (λ b. b) (set marks x false) < count_by (λ b. b) marks
count_by-clear marks x m =
    let e = sum_by-set (λ (b : Bool). cond b 1 0) marks x false false (IsMarked-within marks x m) in
    let one : ◌≡◌ {A = ℕ} (cond (get_or marks x false) 1 0) 1 = ap (λ (b : Bool). cond b 1 0) m in
    omega (arith, e, one)

-- one node more is listed, and has its mark no more
pub Leaves-push : (listed : List ℕ) (marks : List Bool) (x : ℕ) → Leaves listed marks
    → Leaves (listed ++ x ∷ []) (set marks x false)
Leaves-push listed marks x old = record {
  marked = λ node m h. (let c = IsMarked-clear marks x node m in
      elim (Contains-push_cases listed x node h) [ inl k ↦ old.marked node c.1 k | inr e ↦ c.0 (sym e) ]);
  rest = λ node lt m. more node (rw (length-set marks x false) at lt) m;
}
  where
    more : (node : ℕ) → node < length marks → (IsMarked (set marks x false) node → ⊥) → Contains (listed ++ x ∷ []) node
    more node lt m = elim (cases_eq node x) [
      | inl e ↦ (let P : ℕ → Type 0 = λ z. Contains (listed ++ x ∷ []) z in subst P (sym e) (Contains-push listed x))
      | inr ne ↦ Contains-append_left listed (x ∷ []) node (old.rest node lt (λ k. m (rw (get_or-set_other marks x node false false ne) k)))
    ]

-- a node's neighbours are within the marks
pub neighbours_within : (Is : ℕ → Type 0) (nodes : List ℕ) (size : ℕ) → ListsAll Is nodes
    → ((x : ℕ) → Is x → x < size) → All (λ x. x < size) nodes
neighbours_within Is nodes size lists below k d lt =
    below (get_or nodes k d) ((lists.each (get_or nodes k d)).0 (Contains-get_or nodes k d lt))

-- the first of all of a kind that has its mark is the least of the kind with one
pub least_of_kind : (Is : ℕ → Type 0) (nodes : List ℕ) (marks : List Bool) (found : Option ℕ) → ListsAll Is nodes
    → MatchOption found ((x : ℕ) → Contains nodes x → IsMarked marks x → ⊥) (λ least. IsLeast (λ x. Contains nodes x × IsMarked marks x) least)
    → MatchOption found ((x : ℕ) → Is x → IsMarked marks x → ⊥) (λ least. IsLeast (λ x. Is x × IsMarked marks x) least)
least_of_kind Is nodes marks None lists none = λ x is m. none x ((lists.each x).1 is) m
least_of_kind Is nodes marks (Some y) lists h = record {
  is = ((lists.each y).0 h.is.0, h.is.1);
  least = λ other k. h.least other ((lists.each other).1 k.0, k.1);
}

-- what is known where there is none, and where there is one
pub none_or_some : (P : Type 0) (Q : ℕ → Type 0) (found : Option ℕ) (none : Bool) → MatchOption found P Q
    → is_some found ≡ not none → (none ≡ true → P) × (none ≡ false → (x : ℕ) × Q x)
none_or_some P Q None none h e = ((λ _. h), (λ f. cc))
none_or_some P Q (Some x) none h e = ((λ t. cc), (λ _. (x, h)))

-- at first each node has its mark, and none is listed
pub Leaves-none : (n : ℕ) → Leaves [] (replicate n true)
Leaves-none n = record {
  marked = λ node m h. absurd (omega (arith, h.1));
  rest = λ node lt m. absurd (m (get_or-replicate n node true false (rw length-replicate at lt)));
}
